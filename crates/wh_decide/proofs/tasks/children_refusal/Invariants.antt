use Rattle.std.proofs.Common.{◌≡◌, drop, map}
use Rattle.wh_machine.specs.Tests.{first_of}
use Rattle.wh_machine.specs.Tasks.{child_refusal}
use Rattle.wh_catalog.specs.Catalog.{state_of}
use Rattle.wh_decide.proofs.tasks.children_refusal.Given as goal

abbrev pub invariant-loop-id : goal.invariant-loop-id
invariant-loop-id l =
    first_of (map (child_refusal (state_of l.catalog).objects) (drop l.id-index l.after))
    ≡ first_of (map (child_refusal (state_of l.catalog).objects) l.after)
