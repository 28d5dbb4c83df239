use Rattle.std.proofs.Common.{◌≡◌, ◌++◌, drop}
use Rattle.wh_machine.specs.Offsets.{streams_among}
use Rattle.wh_catalog.specs.Catalog.{state_of}
use Rattle.wh_decide.proofs.reading.streams_among.Given as goal

abbrev pub invariant-loop-id : goal.invariant-loop-id
invariant-loop-id l =
    l.found.items ++ streams_among (state_of l.catalog).objects (drop l.id-index l.ids)
    ≡ streams_among (state_of l.catalog).objects l.ids
