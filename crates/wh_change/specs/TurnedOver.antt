-- What a `TurnedOver` holds.
--     IsTurnedOver       the partitions that went and came between two versions' rows
use Rattle.wh_state.specs.State.{Rows}
use Rattle.wh_filed.specs.Filed.{loaded_of}
use Rattle.wh_table.specs.Shown.{TurnsOver}
use Rattle.wh_change.specs.declared.turning.TurnedOver.{TurnedOver}

abbrev pub IsTurnedOver : TurnedOver → Rows → Rows → Type 0
IsTurnedOver turned old new = TurnsOver (loaded_of turned.went.items) (loaded_of turned.came.items) old new
