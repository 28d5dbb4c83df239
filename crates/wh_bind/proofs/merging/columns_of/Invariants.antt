use Rattle.std.proofs.Common.{◌≡◌, map, take}
use Rattle.wh_value.specs.View.{column_of}
use Rattle.wh_naming.specs.Select as naming
use Rattle.wh_core_bind.specs.View.{outputs_of}
use Rattle.wh_bind.proofs.merging.columns_of.Given as goal

abbrev pub invariant-loop-output : goal.invariant-loop-output
invariant-loop-output l =
    map column_of l.columns.items ≡ map naming.column_of (outputs_of (take l.output-index l.outputs))
