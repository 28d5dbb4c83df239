use Rattle.std.proofs.Common.{drop}
use Rattle.wh_plan.specs.Widths.{ArePartsWide}
use Rattle.wh_plan.proofs.widths.are_made_wide.Given as goal

abbrev pub invariant-loop-place : goal.invariant-loop-place
invariant-loop-place l = ArePartsWide l.width (drop l.place l.made) → ArePartsWide l.width l.made
