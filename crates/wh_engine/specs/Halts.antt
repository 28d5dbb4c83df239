-- What a call that halts leaves of a warehouse, and why it halts.
--     IsDamagedAt     there is no partition as it is described at that position
--     Halted          a call that halts
--     HaltedSome      so of some commit that was to be added
use Rattle.std.specs.Prelude.{◌≡◌, ◌↔◌, ◌≤◌, ℕ, List, Option, Some, IsTrue}
use Rattle.wh_state.specs.Commit.{Commit}
use Rattle.wh_state.specs.Written.{added_length, is_beyond}
use Rattle.wh_world.specs.Told.{Rose}
use Rattle.wh_world.specs.declared.disk.Disk.{Ghosts}
use Rattle.wh_part.specs.declared.meta.PartMeta.{PartMeta}
use Rattle.wh_fetch.specs.Place.{IsDamaged}
use Rattle.wh_journal.specs.Journal.{end_of, limit_of, failed_of}
use Rattle.wh_engine.specs.Warehouse.{IsUntouched, ShowsAll, machine_of}
use Rattle.wh_engine.specs.declared.fault.Halt.{Halt}
use Rattle.wh_engine.specs.declared.fault.Halt.TheVariants.{DiskFault, ReadFault, Damaged, FileFull, NeedsReopen}
use Rattle.wh_engine.specs.declared.warehouse.Warehouse.{Warehouse}

-- of a file of so many bytes
abbrev pub IsDamagedAt : Option (List ℕ) → ℕ → ℕ → Type 0
IsDamagedAt told size at = (meta : PartMeta) × IsDamaged told size meta × (meta.at ≡ at)

-- the commit is the one that was to be added, if there was one
pub record Halted {D : Type 0} {seen : Ghosts D} (old new : Warehouse D seen) (commit : Option Commit)
    (halt : Halt) : Type 0 where
  pub state : machine_of new ≡ machine_of old
  -- an earlier failure, exactly
  pub needs_reopen : (faults : ℕ) → (halt ≡ NeedsReopen faults) ↔ (failed_of old.journal ≡ Some faults)
  -- no room for the commit; the way back, but for want of memory and for what wasn't read
  pub file_full : (len need : ℕ)
      → halt ≡ FileFull len need
      → IsTrue (is_beyond (limit_of old.journal) (end_of old.journal) commit) × (len ≡ end_of old.journal)
      × (need ≡ added_length commit)
  pub beyond : IsTrue (is_beyond (limit_of old.journal) (end_of old.journal) commit) → halt ≡ DiskFault → ⊥
  -- a failure of the disk; from then on each event is answered NeedsReopen, and no other halt changes anything
  pub disk_fault : halt ≡ DiskFault → Rose (seen.faults old.fetch.disk) (seen.faults new.fetch.disk)
  pub failed : halt ≡ DiskFault → failed_of new.journal ≡ Some (seen.faults new.fetch.disk)
  pub untouched : (halt ≡ DiskFault → ⊥) → IsUntouched old new
  -- a failure of the disk while it was read, or of what was read, which is right where the file shows it
  pub read_fault : halt ≡ ReadFault → Rose (seen.faults old.fetch.disk) (seen.faults new.fetch.disk)
  pub damaged : (at : ℕ)
      → halt ≡ Damaged at
      → IsDamagedAt (seen.bytes old.fetch.disk) (seen.size old.fetch.disk) at
  pub sound : (at : ℕ) → halt ≡ Damaged at → ShowsAll old → ⊥
  pub later : seen.faults old.fetch.disk ≤ seen.faults new.fetch.disk

-- over any disk: what is read of one whose bytes aren't told may be anything
pub record HaltedSome {D : Type 0} {seen : Ghosts D} (old new : Warehouse D seen) (halt : Halt) : Type 0 where
  pub commit : Option Commit
  pub halted : Halted old new commit halt
