use Rattle.std.proofs.Common.{◌≡◌, drop}
use Rattle.wh_naming.specs.Select as naming
use Rattle.wh_core_bind.specs.View.{outputs_of}
use Rattle.wh_bind.specs.Steps.{nothing_sorted}
use Rattle.wh_bind.specs.View.{sorted_in}
use Rattle.wh_bind.proofs.keys.all_sorted.Given as goal

abbrev pub invariant-loop-sort : goal.invariant-loop-sort
invariant-loop-sort l = naming.all_sorted (outputs_of l.outputs) (sorted_in l.keys) (drop l.sort-index l.sorts)
    ≡ naming.all_sorted (outputs_of l.outputs) nothing_sorted l.sorts
