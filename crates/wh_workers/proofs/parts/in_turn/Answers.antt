use Rattle.std.proofs.Common.{sym}
use Rattle.std.proofs.lemmas.List.{take_more}
use Rattle.wh_workers.proofs.JoinedLaws.{zip-append}
use Rattle.wh_workers.proofs.parts.in_turn.Goals as goal

pub loop-part-preserved : goal.loop-part-preserved
loop-part-preserved g c =
    rw (take_more c.args.parts.now c.loop-part.part-index c.part-item.result c.loop-part-test.true, c.in_ok-push.ensures.items, sym c.part-item.is)
    (zip-append _ _ _ _ _ c.loop-part.invariant
    (record { shown = c.deref.result; shows = c.deref.ensures; says = record { met = c.f.ensures } }, tt))
