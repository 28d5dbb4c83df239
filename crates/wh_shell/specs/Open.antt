-- What holds of an open warehouse between two events.
--     IsOpen               the file goes with the state and is all on the disk, and nothing failed so far
--     IsToldWith           bytes are told, and the machine with them is sound
--     IsTold               so of its file, and the machine that it is
--     StaysOpen            it is open still, its file told as before, and of the same limit
use Rattle.std.specs.Prelude.{◌≡◌, ℕ, List, Option, None, is_some, IsTrue}
use Rattle.wh_machine.specs.Outcome.{Machine}
use Rattle.wh_machine.specs.Sound.{SoundMachine}
use Rattle.wh_world.specs.declared.disk.Disk.{Ghosts}
use Rattle.wh_journal.specs.Journal.{limit_of, failed_of}
use Rattle.wh_engine.specs.Warehouse.{Filed, IsSettled, machine_of}
use Rattle.wh_engine.specs.declared.warehouse.Warehouse.{Warehouse}

pub record IsOpen {D : Type 0} {disk : Ghosts D} (w : Warehouse D disk) : Type 0 where
  pub filed : Filed (disk.bytes w.fetch.disk) w.journal w.catalog
  pub settled : IsSettled (disk.bytes w.fetch.disk) (disk.may_leave w.fetch.disk)
  pub healthy : failed_of w.journal ≡ None

pub record IsToldWith (bytes : Option (List ℕ)) (machine : Machine) : Type 0 where
  pub told : IsTrue (is_some bytes)
  pub sound : SoundMachine machine

abbrev pub IsTold : {D : Type 0} {disk : Ghosts D} → Warehouse D disk → Type 0
IsTold {D} {disk} w = IsToldWith (disk.bytes w.fetch.disk) (machine_of w)

pub record StaysOpen {D : Type 0} {disk : Ghosts D} (old new : Warehouse D disk) : Type 0 where
  pub opens : IsOpen new
  pub told : is_some (disk.bytes new.fetch.disk) ≡ is_some (disk.bytes old.fetch.disk)
  pub limit : limit_of new.journal ≡ limit_of old.journal
  -- over an untold file the machine may be any, since what is read may be anything
  pub sound : IsTold old → IsTold new
