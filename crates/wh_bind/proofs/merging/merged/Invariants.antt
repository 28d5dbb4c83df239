use Rattle.std.proofs.Common.{◌≡◌, ◌++◌, drop}
use Rattle.wh_naming.specs.Select as naming
use Rattle.wh_core_bind.specs.View.{outputs_of}
use Rattle.wh_bind.proofs.merging.merged.Given as goal

abbrev pub invariant-loop-place : goal.invariant-loop-place
invariant-loop-place l = outputs_of l.merged.items
    ++ naming.merged (outputs_of (drop l.place l.outputs)) (outputs_of (drop l.place l.others))
    ≡ naming.merged (outputs_of l.outputs) (outputs_of l.others)
