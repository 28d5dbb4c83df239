use Rattle.std.proofs.Common.{ap, ◌∙◌}
use Rattle.wh_filed.specs.Filed.{filed_at}
use Rattle.wh_delta.specs.Moved.{only_in}
use Rattle.wh_delta.proofs.Places.{seen_next}
use Rattle.wh_delta.proofs.Rising.{lower_next}
use Rattle.wh_delta.proofs.moved.only_by_walk.Goals as goal

pub loop-one-preserved : goal.loop-one-preserved
loop-one-preserved c = (
  c.in_ok-near.ensures.found _ c.loop-one.invariant.0
      ∙ ap (λ fs. only_in fs (filed_at c.args.others.now))
      (seen_next c.args.some.now c.loop-one.one-index c.one-item.result c.loop-one-test.true c.one-item.is),
  λ d within. lower_next c.args.some.now c.args.others.now c.loop-one.one-index c.in_ok-near.near c.one-item.result d
      c.requires.some c.one-item.is within c.in_ok-near.ensures.front,
)
