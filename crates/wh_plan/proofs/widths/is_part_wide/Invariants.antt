use Rattle.std.proofs.Common.{◌≡◌, drop, length}
use Rattle.std.specs.List.{AllByRecursion}
use Rattle.wh_part.specs.View.{numbered_of}
use Rattle.wh_plan.proofs.widths.is_part_wide.Given as goal

abbrev pub invariant-loop-place : goal.invariant-loop-place
invariant-loop-place l = AllByRecursion (λ r. length (numbered_of r).1 ≡ l.width) (drop l.place l.rows)
    → AllByRecursion (λ r. length (numbered_of r).1 ≡ l.width) l.rows
