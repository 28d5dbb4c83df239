-- What a call does to a disk, beside the bytes that it reads or writes.
--     Writes       it writes up to a position at most, and reads nothing
--     Counts       how it counts the disk's faults; CountsReads, of a read
--     Unfailed, Fails     it counts none, or one
--     ReadsOnce, IsRead   it reads once at most, or at least
--     LeavesNoOthers      a crash at any moment leaves what one could leave before
--     OnlyReads    it reads once at most, and writes nothing
--     IsDurable    what a read gives is all that a crash leaves
use Rattle.std.specs.Prelude.{◌≡◌, ℕ, ◌+◌, ◌≤◌, max, List, Some, Result, OnOk, OnErr, IsErrOf}
use Rattle.wh_world.specs.Told.{Rose}
use Rattle.wh_world.specs.Crash.{Only, NoOthers}
use Rattle.wh_world.specs.declared.Disk.{Ghosts}
use Rattle.wh_journal.specs.Crash.{LeavesOnly}
use Rattle.wh_journal.specs.declared.fault.ReadFault.{ReadFault}
use Rattle.wh_journal.specs.declared.fault.ReadFault.TheVariants.{OutOfMemory, DiskFault}

abbrev pub Unfailed : {D : Type 0} → Ghosts D → D → D → Type 0
Unfailed d old new = d.faults new ≡ d.faults old

abbrev pub Fails : {D : Type 0} → Ghosts D → D → D → Type 0
Fails d old new = Rose (d.faults old) (d.faults new)

abbrev pub ReadsOnce : {D : Type 0} → Ghosts D → D → D → Type 0
ReadsOnce d old new = (d.reads old ≤ d.reads new) × (d.reads new ≤ d.reads old + 1)

abbrev pub IsRead : {D : Type 0} → Ghosts D → D → D → Type 0
IsRead d old new = Rose (d.reads old) (d.reads new)

abbrev pub LeavesNoOthers : {D : Type 0} → Ghosts D → D → D → Type 0
LeavesNoOthers d old new = LeavesOnly d.moment d.left_since old new (d.may_leave old)

pub record Writes {D A E : Type 0} (d : Ghosts D) (old new : D) (end : ℕ) (result : Result A E) : Type 0 where
  pub size : OnOk result (d.size new ≡ max (d.size old) end)
  pub size_err : OnErr result ((d.size old ≤ d.size new) × (d.size new ≤ max (d.size old) end))
  pub reads : d.reads new ≡ d.reads old
  pub later : d.faults old ≤ d.faults new
  pub no_fault : OnOk result (d.faults new ≡ d.faults old)

-- what a read gives stays, and what a crash leaves
pub record OnlyReads {D : Type 0} (d : Ghosts D) (old new : D) : Type 0 where
  pub bytes : d.bytes new ≡ d.bytes old
  pub size : d.size new ≡ d.size old
  pub not_before : d.reads old ≤ d.reads new
  pub once : d.reads new ≤ d.reads old + 1
  pub crash : NoOthers (d.may_leave old) (d.may_leave new)
  pub any_moment : LeavesOnly d.moment d.left_since old new (d.may_leave old)
  pub later : d.faults old ≤ d.faults new

abbrev pub IsDurable : {D : Type 0} → Ghosts D → D → Type 0
IsDurable d disk = (file : List ℕ) → d.bytes disk ≡ Some file → Only file (d.may_leave disk)

-- none where it succeeds or wants memory, and one where the disk fails
pub record Counts {D A E : Type 0} (d : Ghosts D) (old new : D) (result : Result A E) (memory disk : E) : Type 0 where
  pub later : d.faults old ≤ d.faults new
  pub no_fault : OnOk result (d.faults new ≡ d.faults old)
  pub starved : IsErrOf result memory → d.faults new ≡ d.faults old
  pub disk_fault : IsErrOf result disk → Rose (d.faults old) (d.faults new)

abbrev pub CountsReads : {D A : Type 0} → Ghosts D → D → D → Result A ReadFault → Type 0
CountsReads d old new result = Counts d old new result OutOfMemory DiskFault
