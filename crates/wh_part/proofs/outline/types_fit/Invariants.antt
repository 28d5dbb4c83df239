use Rattle.std.proofs.Common.{◌≡◌, map, drop, length}
use Rattle.wh_value.specs.View.{column_of}
use Rattle.wh_part.specs.Outline.{types_fit}
use Rattle.wh_part.proofs.outline.types_fit.Given as goal

-- all fit if those that are left do
abbrev pub invariant-loop-place : goal.invariant-loop-place
invariant-loop-place l = types_fit (map column_of l.columns) l.types
    ≡ types_fit (map column_of (drop l.place l.columns)) (drop l.place l.types)
