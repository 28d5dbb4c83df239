use Rattle.wh_workers.proofs.JoinedLaws.{joined-push}
use Rattle.wh_workers.proofs.parts.joined.Goals as goal

pub loop-piece-preserved : goal.loop-piece-preserved
loop-piece-preserved g c =
    rw (c.in_ok-append.ensures.items, c.in_ok-more.was) (joined-push c.loop-piece.yielded c.in_ok-more.more _ c.loop-piece.invariant)
