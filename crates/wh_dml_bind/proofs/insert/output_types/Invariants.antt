use Rattle.std.proofs.Common.{◌≡◌, map, take}
use Rattle.wh_naming.specs.Changes.{output_types}
use Rattle.wh_core_bind.specs.View.{outputs_of}
use Rattle.wh_expr_bind.specs.View.{type_of_option}
use Rattle.wh_dml_bind.proofs.insert.output_types.Given as goal

abbrev pub invariant-loop-output : goal.invariant-loop-output
invariant-loop-output l = map type_of_option l.types.items ≡ output_types (outputs_of (take l.output-index l.outputs))
