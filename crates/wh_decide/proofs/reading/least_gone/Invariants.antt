use Rattle.std.proofs.Common.{◌≡◌, drop}
use Rattle.std.specs.List.{filter}
use Rattle.wh_net.specs.Stream.{is_gone}
use Rattle.wh_machine.specs.Reading.{least}
use Rattle.wh_catalog.specs.Catalog.{state_of}
use Rattle.wh_decide.proofs.ReadingLemmas.{least_of}
use Rattle.wh_decide.proofs.reading.least_gone.Given as goal

abbrev pub invariant-loop-id : goal.invariant-loop-id
invariant-loop-id l =
    least_of l.least (filter (is_gone (state_of l.catalog).objects) (drop l.id-index l.ids))
    ≡ least (filter (is_gone (state_of l.catalog).objects) l.ids)
