use Rattle.std.proofs.Common.{◌≡◌, map, take}
use Rattle.wh_core_bind.specs.View.{outputs_of}
use Rattle.wh_bind.proofs.select.names_of.Given as goal

abbrev pub invariant-loop-output : goal.invariant-loop-output
invariant-loop-output l = l.names.items ≡ map (λ o. o.name) (outputs_of (take l.output-index l.outputs))
