use Rattle.wh_filed.specs.Filed.{Filed, filed_at}
use Rattle.wh_plan.specs.Widths.{IsPartWide}
use Rattle.wh_plan.proofs.WidthLaws.{none_left, all_mapped}
use Rattle.wh_plan.proofs.widths.are_filed_wide.Goals as goal

pub returns : goal.returns
returns c =
    let width = c.args.width in
    let all = none_left _ c.args.filed.now c.loop-place.place c.loop-place-test.false c.loop-place.invariant in
    all_mapped (IsPartWide width) (λ (f : Filed). f.partition) (filed_at c.args.filed.now)
    (all_mapped (λ (f : Filed). IsPartWide width f.partition) (λ f. f.now) c.args.filed.now all)
