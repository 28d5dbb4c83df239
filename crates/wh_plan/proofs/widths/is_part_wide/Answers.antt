use Rattle.std.proofs.Common.{◌≡◌, length, subst}
use Rattle.std.specs.List.{AllByRecursion}
use Rattle.wh_part.specs.View.{numbered_of}
use Rattle.wh_plan.proofs.WidthLaws.{none_left, all_mapped}
use Rattle.wh_plan.proofs.widths.is_part_wide.Goals as goal

pub returns : goal.returns
returns c =
    let all = none_left _ c.rows-rows.result.now c.loop-place.place c.loop-place-test.false c.loop-place.invariant in
    subst (AllByRecursion (λ e. length e.1 ≡ c.args.width)) c.rows-rows.ensures.rows
    (all_mapped (λ e. length e.1 ≡ c.args.width) numbered_of c.rows-rows.result.now all)
