use Rattle.std.proofs.Common.{drop}
use Rattle.wh_moves.specs.Widths.{AreWide}
use Rattle.wh_plan.proofs.widths.rows_width.Given as goal

abbrev pub invariant-loop-place : goal.invariant-loop-place
invariant-loop-place l = AreWide l.width (drop l.place l.rows) → AreWide l.width l.rows
