use Rattle.std.proofs.Common.{◌≡◌, length, drop}
use Rattle.wh_naming.specs.Select as naming
use Rattle.wh_core_bind.specs.View.{outputs_of}
use Rattle.wh_bind.proofs.merging.fit_each_other.Given as goal

abbrev pub invariant-loop-place : goal.invariant-loop-place
invariant-loop-place l = (naming.fit_each_other (outputs_of (drop l.place l.outputs))
    (outputs_of (drop l.place l.others)) ≡ naming.fit_each_other (outputs_of l.outputs) (outputs_of l.others))
    × (length l.outputs ≡ length l.others)
