use Rattle.wh_plan.proofs.WidthLaws.{none_left}
use Rattle.wh_plan.proofs.widths.rows_width.Goals as goal

pub returns : goal.returns
returns c = none_left _ c.args.rows.now c.loop-place.place c.loop-place-test.false c.loop-place.invariant
