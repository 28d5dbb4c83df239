-- What was loaded for a stream.
--     Gives      the records that it stands for
use Rattle.std.specs.Prelude.{◌≡◌, List, [], map}
use Rattle.wh_state.specs.State.{Rows}
use Rattle.wh_state.specs.Stored.{StoredVersion, version_meant}
use Rattle.wh_net.specs.Net.{RowChange, net, appended}
use Rattle.wh_change.specs.Appended.{IsAppended}
use Rattle.wh_change.specs.TurnedOver.{IsTurnedOver}
use Rattle.wh_stream.specs.declared.loaded.Loaded.{Loaded}
use Rattle.wh_stream.specs.declared.loaded.Loaded.TheVariants.{Nothing, Turned, Arrived}

abbrev pub Gives : Loaded → List RowChange → Type 0
Gives Nothing records = records ≡ []
Gives (Turned turned) records = (old new : Rows) × IsTurnedOver turned old new × (records ≡ net old new)
Gives (Arrived found from to) records =
    (versions : List StoredVersion) × IsAppended from found versions
    × (records ≡ appended (map version_meant versions) from to)
