use Rattle.std.specs.Arc.{arc_value}
use Rattle.wh_plan.specs.Widths.{IsPartWide}
use Rattle.wh_plan.proofs.WidthLaws.{none_left, all_mapped}
use Rattle.wh_plan.proofs.widths.are_loaded_wide.Goals as goal

pub returns : goal.returns
returns c =
    let all = none_left _ c.args.loaded.now c.loop-place.place c.loop-place-test.false c.loop-place.invariant in
    all_mapped (IsPartWide c.args.width) arc_value c.args.loaded.now all
