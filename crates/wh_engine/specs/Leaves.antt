-- What a crash at any moment of a call leaves of a warehouse.
--     StandsForEither     a file that stands for the one state or the other, at rest
--     Leaves              so over a file that is all on the disk, whatever the call answers
use Rattle.std.specs.Prelude.{◌≡◌, ◌⊎◌, ℕ, List, Some}
use Rattle.wh_state.specs.State.{State, at_rest}
use Rattle.wh_state.specs.File.{Stands}
use Rattle.wh_world.specs.Crash.{Only}
use Rattle.wh_world.specs.declared.disk.Disk.{Ghosts}
use Rattle.wh_journal.specs.Crash.{LeavesOnly}
use Rattle.wh_catalog.specs.Catalog.{state_of}
use Rattle.wh_engine.specs.Warehouse.{Filed}
use Rattle.wh_engine.specs.declared.warehouse.Warehouse.{Warehouse}

abbrev pub StandsForEither : State → State → List ℕ → Type 0
StandsForEither old new image = Stands image (at_rest old) ⊎ Stands image (at_rest new)

-- the state before the call, or that one
pub record Leaves {D : Type 0} {seen : Ghosts D} (old new : Warehouse D seen) (state : State) : Type 0 where
  pub each : (file : List ℕ) → seen.bytes old.fetch.disk ≡ Some file → Only file (seen.may_leave old.fetch.disk)
      → Filed (seen.bytes old.fetch.disk) old.journal old.catalog
      → LeavesOnly seen.moment seen.left_since old.fetch.disk new.fetch.disk
      (StandsForEither (state_of old.catalog) state)
