use Rattle.std.proofs.Common.{◌≡◌, ◌++◌, drop}
use Rattle.wh_naming.specs.Scope.{only}
use Rattle.wh_naming.specs.Select.{positions_of}
use Rattle.wh_core_bind.specs.View.{outputs_of}
use Rattle.wh_bind.proofs.OutputLemmas.{listed}
use Rattle.wh_bind.proofs.keys.place_of.Given as goal

abbrev pub invariant-loop-place : goal.invariant-loop-place
invariant-loop-place l = only (listed l.found ++ positions_of l.name l.place (outputs_of (drop l.place l.outputs)))
    ≡ only (positions_of l.name 0 (outputs_of l.outputs))
