use Rattle.std.proofs.Common.{◌≡◌, ◌++◌, map, take}
use Rattle.wh_value.specs.View.{column_of}
use Rattle.wh_naming.specs.Select.{output_of}
use Rattle.wh_core_bind.specs.View.{outputs_of}
use Rattle.wh_core_bind.proofs.shown.add_outputs.Given as goal

abbrev pub invariant-loop-column : goal.invariant-loop-column
invariant-loop-column l = outputs_of l.outputs.items
    ≡ outputs_of l.initial.outputs.items ++ map output_of (map column_of (take l.column-index l.columns))
