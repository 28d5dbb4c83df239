use Rattle.std.proofs.Common.{◌≡◌, drop, map}
use Rattle.wh_value.specs.View.{column_of}
use Rattle.wh_ddl_naming.specs.Tables.{column_names, taken_column}
use Rattle.wh_ddl_bind.proofs.columns.taken_column.Given as goal

abbrev pub invariant-loop-place : goal.invariant-loop-place
invariant-loop-place l = taken_column (column_names (map column_of (drop l.place l.columns)))
    ≡ taken_column (column_names (map column_of l.columns))
