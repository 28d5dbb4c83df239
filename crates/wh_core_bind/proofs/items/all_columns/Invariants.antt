use Rattle.std.proofs.Common.{◌≡◌, map, take}
use Rattle.wh_value.specs.View.{column_of}
use Rattle.wh_naming.specs.Select.{all_columns}
use Rattle.wh_expr_bind.specs.View.{entries_of}
use Rattle.wh_core_bind.proofs.items.all_columns.Given as goal

abbrev pub invariant-loop-entry : goal.invariant-loop-entry
invariant-loop-entry l = map column_of l.columns.items ≡ all_columns (entries_of (take l.entry-index l.entries))
