-- What an opening finds in a file, and why one isn't opened.
--     Finds           the parts of a warehouse, over the disk as it then is
--     Opens           the warehouse of them
--     FailsToOpen     what a fault leaves of the disk, and where it comes from
use Rattle.std.specs.Prelude.{◌≡◌, ℕ, ◌<◌, ◌≤◌, List, [], ◌∷◌, ◌++◌, Some, None, length, is_some}
use Rattle.wh_world.specs.Told.{Rose}
use Rattle.wh_world.specs.Crash.{Only}
use Rattle.wh_world.specs.declared.disk.Disk.{Ghosts}
use Rattle.wh_frame.specs.File.{IsFileOf, GateEndsAt, header}
use Rattle.wh_state.specs.Stored.{Means}
use Rattle.wh_state.specs.File.{Keeps}
use Rattle.wh_state.specs.Fault.{IsFirstFault}
use Rattle.wh_machine.specs.Sessions.{no_sessions}
use Rattle.wh_journal.specs.Journal.{end_of, limit_of, failed_of}
use Rattle.wh_journal.specs.Opening.{LeavesKept}
use Rattle.wh_journal.specs.declared.journal.Journal.{Journal}
use Rattle.wh_catalog.specs.Catalog.{stored_of, state_of}
use Rattle.wh_catalog.specs.declared.catalog.Catalog.{Catalog}
use Rattle.wh_txn.specs.View.{sessions_of}
use Rattle.wh_txn.specs.declared.sessions.Sessions.{Sessions}
use Rattle.wh_engine.specs.Warehouse.{Filed, IsSettled}
use Rattle.wh_journal.specs.declared.fault.OpenFault.{OpenFault}
use Rattle.wh_journal.specs.declared.fault.OpenFault.TheVariants.{OutOfMemory, DiskFault, NotWarehouse}
use Rattle.wh_engine.specs.declared.warehouse.Warehouse.{Warehouse}

-- of a file of at most so many bytes
pub record Finds {D : Type 0} (seen : Ghosts D) (old new : D) (most : ℕ) (j : Journal) (c : Catalog) (s : Sessions)
    : Type 0 where
  -- what the file says, and the state that is meant; no transaction is open
  pub kept : (file : List ℕ) → seen.bytes old ≡ Some file → Keeps file (stored_of c)
  pub means : Means (stored_of c) (state_of c)
  pub sessions : sessions_of s ≡ no_sessions
  -- which goes with the file from then on
  pub filed : Filed (seen.bytes new) j c
  pub told : is_some (seen.bytes new) ≡ is_some (seen.bytes old)
  pub ends : (file : List ℕ) → seen.bytes old ≡ Some file → GateEndsAt file (end_of j)
  pub reach : end_of j ≤ seen.size new
  -- a longer file stays as it is, and a short one becomes the header and a closed gate, and so has no records
  pub same : (file : List ℕ) → seen.bytes old ≡ Some file → 8 < length file → seen.bytes new ≡ Some file
  pub anew : (file : List ℕ) → seen.bytes old ≡ Some file → length file ≤ 8 → seen.bytes new ≡ Some (header ++ 0 ∷ [])
  pub fresh : (file : List ℕ) → seen.bytes old ≡ Some file → length file ≤ 8
      → (now : List ℕ) × (seen.bytes new ≡ Some now) × IsFileOf [] now
  -- the file alone is left by a crash, and at any moment of the call a longer one as it was and a short one short
  pub durable : IsSettled (seen.bytes new) (seen.may_leave new)
  pub any_moment : LeavesKept seen old new
  -- nothing failed
  pub healthy : failed_of j ≡ None
  pub limit : limit_of j ≡ most
  pub no_fault : seen.faults new ≡ seen.faults old

abbrev pub Opens : {D : Type 0} → (seen : Ghosts D) → D → ℕ → Warehouse D seen → Type 0
Opens seen old most w = Finds seen old w.fetch.disk most w.journal w.catalog w.sessions

pub record FailsToOpen {D : Type 0} (seen : Ghosts D) (old new : D) (fault : OpenFault) : Type 0 where
  -- the file stands for no state and has its first fault there; it stays as it was, and is what a crash leaves
  pub not_warehouse : (at : ℕ) (file : List ℕ) → fault ≡ NotWarehouse at → seen.bytes old ≡ Some file
      → (8 < length file) × IsFirstFault file at × (seen.bytes new ≡ Some file) × Only file (seen.may_leave new)
  pub unfailed : (at : ℕ) → fault ≡ NotWarehouse at → seen.faults new ≡ seen.faults old
  pub memory : fault ≡ OutOfMemory → seen.faults new ≡ seen.faults old
  pub disk_fault : fault ≡ DiskFault → Rose (seen.faults old) (seen.faults new)
  pub later : seen.faults old ≤ seen.faults new
  -- a longer file as it was, and a short one short
  pub any_moment : LeavesKept seen old new
