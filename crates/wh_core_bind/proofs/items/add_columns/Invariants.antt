use Rattle.std.proofs.Common.{◌≡◌, ◌++◌, map, take}
use Rattle.wh_value.specs.View.{column_of}
use Rattle.wh_core_bind.proofs.items.add_columns.Given as goal

abbrev pub invariant-loop-column : goal.invariant-loop-column
invariant-loop-column l =
    map column_of l.columns.items ≡ map column_of l.initial.columns.items ++ map column_of (take l.column-index l.more)
