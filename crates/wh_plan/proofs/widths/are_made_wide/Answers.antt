use Rattle.wh_plan.proofs.WidthLaws.{none_left}
use Rattle.wh_plan.proofs.widths.are_made_wide.Goals as goal

pub returns : goal.returns
returns c = none_left _ c.args.made.now c.loop-place.place c.loop-place-test.false c.loop-place.invariant
