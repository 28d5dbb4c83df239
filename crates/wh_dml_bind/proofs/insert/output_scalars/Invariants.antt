use Rattle.std.proofs.Common.{◌≡◌, take}
use Rattle.wh_algebra.specs.View.{scalars_of}
use Rattle.wh_naming.specs.Changes.{outputs_from}
use Rattle.wh_core_bind.specs.View.{outputs_of}
use Rattle.wh_dml_bind.proofs.insert.output_scalars.Given as goal

abbrev pub invariant-loop-place : goal.invariant-loop-place
invariant-loop-place l = scalars_of l.scalars.items ≡ outputs_from 0 (outputs_of (take l.place l.outputs))
