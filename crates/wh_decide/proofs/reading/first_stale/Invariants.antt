use Rattle.std.proofs.Common.{◌≡◌, drop, map}
use Rattle.wh_machine.specs.Tests.{first_of}
use Rattle.wh_machine.specs.Reading.{stale_refusal}
use Rattle.wh_catalog.specs.Catalog.{state_of}
use Rattle.wh_decide.proofs.reading.first_stale.Given as goal

abbrev pub invariant-loop-id : goal.invariant-loop-id
invariant-loop-id l =
    first_of (map (stale_refusal (state_of l.catalog).objects l.stamp) (drop l.id-index l.ids))
    ≡ first_of (map (stale_refusal (state_of l.catalog).objects l.stamp) l.ids)
