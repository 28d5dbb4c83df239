use Rattle.std.proofs.Common.{drop}
use Rattle.std.specs.List.{AllByRecursion}
use Rattle.wh_plan.specs.Widths.{IsPartWide}
use Rattle.wh_plan.proofs.widths.are_filed_wide.Given as goal

-- all are so wide if those that are left are
abbrev pub invariant-loop-place : goal.invariant-loop-place
invariant-loop-place l = AllByRecursion (λ f. IsPartWide l.width f.now.partition) (drop l.place l.filed)
    → AllByRecursion (λ f. IsPartWide l.width f.now.partition) l.filed
