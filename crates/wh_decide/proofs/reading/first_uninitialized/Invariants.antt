use Rattle.std.proofs.Common.{◌≡◌, drop, map}
use Rattle.wh_machine.specs.Tests.{first_of}
use Rattle.wh_machine.specs.Reading.{uninitialized_refusal}
use Rattle.wh_catalog.specs.Catalog.{state_of}
use Rattle.wh_decide.proofs.reading.first_uninitialized.Given as goal

abbrev pub invariant-loop-id : goal.invariant-loop-id
invariant-loop-id l =
    first_of (map (uninitialized_refusal (state_of l.catalog).objects) (drop l.id-index l.ids))
    ≡ first_of (map (uninitialized_refusal (state_of l.catalog).objects) l.ids)
