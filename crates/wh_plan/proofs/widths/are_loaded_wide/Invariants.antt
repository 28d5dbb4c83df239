use Rattle.std.proofs.Common.{drop}
use Rattle.std.specs.List.{AllByRecursion}
use Rattle.std.specs.Arc.{arc_value}
use Rattle.wh_plan.specs.Widths.{IsPartWide}
use Rattle.wh_plan.proofs.widths.are_loaded_wide.Given as goal

-- all are so wide if those that are left are
abbrev pub invariant-loop-place : goal.invariant-loop-place
invariant-loop-place l = AllByRecursion (λ p. IsPartWide l.width (arc_value p)) (drop l.place l.loaded)
    → AllByRecursion (λ p. IsPartWide l.width (arc_value p)) l.loaded
