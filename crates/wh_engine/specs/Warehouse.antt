-- What contracts say of a `Warehouse`.
--     Shows               whatever follows the records, what stands in front shows partitions where they are filed
--     Filed               where the disk's bytes are told, they are a file of commits that
--                         lead to what the catalog says, and show its partitions
--     ShowsAll            they are told, and show its partitions
--     IsSettled           where bytes are told, a crash leaves them as they are
--     IsUntouched         the disk was only read, and journal and catalog are as they were
--     IsOnlyRead          so of the same journal, catalog and open transactions
--     fetched_of          the partitions that were asked for
--     IsBegun             of a new event: none was asked for, or found damaged
--     ReadsNothing        the disk wasn't read, and no partition asked for
--     ReadsOnceEach       it was read at most once for each that was
--     machine_of          the machine that it is
--     decided_at          the machine at the stamp of an event
--     made_in, led_to     the commit that an event makes, and the machine that it leads to
--     state_with          the state at a stamp, with a commit or without
use Rattle.std.specs.Prelude.{◌≡◌, ℕ, ◌+◌, ◌-◌, ◌≤◌, List, [], map, length, Option, Some, None}
use Rattle.std.specs.List.{AllByRecursion}
use Rattle.wh_frame.specs.File.{IsFileOf}
use Rattle.wh_state.specs.State.{State, stamped}
use Rattle.wh_state.specs.Stored.{Stored, first_stored, meant}
use Rattle.wh_state.specs.Commit.{Commit, Leads}
use Rattle.wh_state.specs.Spelling.{payload_of, IsCommit}
use Rattle.wh_state.specs.Written.{kept_after}
use Rattle.wh_machine.specs.Outcome.{Machine}
use Rattle.wh_machine.specs.Step.{Event, step, at_stamp, stamp_of, reading_of}
use Rattle.wh_machine.specs.Made.{made}
use Rattle.wh_world.specs.Crash.{Only}
use Rattle.wh_world.specs.declared.disk.Disk.{Ghosts}
use Rattle.wh_part.specs.declared.meta.PartId.{PartId}
use Rattle.wh_filed.specs.Filed.{Filed as FiledPartition, AllShown}
use Rattle.wh_fetch.specs.Device.{OnlyRead}
use Rattle.wh_journal.specs.Journal as journals
use Rattle.wh_journal.specs.Torn.{SameFront}
use Rattle.wh_journal.specs.declared.journal.Journal.{Journal}
use Rattle.wh_catalog.specs.Catalog.{stored_of, state_of, filed_of}
use Rattle.wh_catalog.specs.declared.catalog.Catalog.{Catalog}
use Rattle.wh_txn.specs.View.{sessions_of}
use Rattle.wh_engine.specs.declared.warehouse.Warehouse.{Warehouse}

-- bytes that begin as the file does, up to the journal's present gate
abbrev pub Shows : List ℕ → Journal → List FiledPartition → Type 0
Shows file j filed = (image : List ℕ) → SameFront (journals.end_of j - 1) file image → AllShown (Some image) filed

-- these commits are the file's, are listed by the journal, and lead to what the catalog says; its partitions are in
-- them
pub record IsFileOfCommits (file : List ℕ) (j : Journal) (c : Catalog) : Type 0 where
  pub commits : List Commit
  pub good : AllByRecursion IsCommit commits
  pub spelled : IsFileOf (map payload_of commits) file
  pub listed : journals.Lists (map payload_of commits) j
  pub leads : Leads first_stored commits (stored_of c)
  pub shows : Shows file j (filed_of c)

-- where bytes are told
pub record Filed (bytes : Option (List ℕ)) (j : Journal) (c : Catalog) : Type 0 where
  pub each : (file : List ℕ) → bytes ≡ Some file → IsFileOfCommits file j c

pub record IsSettled (bytes : Option (List ℕ)) (may_leave : List ℕ → Type 0) : Type 0 where
  pub each : (file : List ℕ) → bytes ≡ Some file → Only file may_leave

-- what is read of the file is what was filed
abbrev pub ShowsAll : {D : Type 0} {seen : Ghosts D} → Warehouse D seen → Type 0
ShowsAll {D} {seen} w = AllShown (seen.bytes w.fetch.disk) (filed_of w.catalog)

-- the same places, end, limit and fault of the journal, what the catalog says and has filed, and open transactions
pub record IsUntouched {D : Type 0} {seen : Ghosts D} (old new : Warehouse D seen) : Type 0 where
  pub disk : OnlyRead seen old.fetch.disk new.fetch.disk
  pub journal : journals.IsSame old.journal new.journal
  pub stored : stored_of new.catalog ≡ stored_of old.catalog
  pub filed : filed_of new.catalog ≡ filed_of old.catalog
  pub sessions : sessions_of new.sessions ≡ sessions_of old.sessions

pub record IsOnlyRead {D : Type 0} {seen : Ghosts D} (old new : Warehouse D seen) : Type 0 where
  pub disk : OnlyRead seen old.fetch.disk new.fetch.disk
  pub journal : new.journal ≡ old.journal
  pub catalog : new.catalog ≡ old.catalog
  pub sessions : new.sessions ≡ old.sessions

-- in the present event
abbrev pub fetched_of : {D : Type 0} {seen : Ghosts D} → Warehouse D seen → List PartId
fetched_of w = w.fetch.asked.items

pub record IsBegun {D : Type 0} {seen : Ghosts D} (w : Warehouse D seen) : Type 0 where
  pub asked : w.fetch.asked.items ≡ []
  pub damaged : w.fetch.damaged ≡ None
  pub spoilt : w.fetch.spoilt ≡ 0

pub record ReadsNothing {D : Type 0} {seen : Ghosts D} (old new : Warehouse D seen) : Type 0 where
  pub reads : seen.reads new.fetch.disk ≡ seen.reads old.fetch.disk
  pub asked : fetched_of new ≡ fetched_of old

pub record ReadsOnceEach {D : Type 0} {seen : Ghosts D} (old new : Warehouse D seen) : Type 0 where
  pub later : seen.reads old.fetch.disk ≤ seen.reads new.fetch.disk
  pub once : seen.reads new.fetch.disk ≤ seen.reads old.fetch.disk + length (fetched_of new)

abbrev pub machine_of : {D : Type 0} {seen : Ghosts D} → Warehouse D seen → Machine
machine_of w = record { state = state_of w.catalog; sessions = sessions_of w.sessions }

abbrev pub decided_at : {D : Type 0} {seen : Ghosts D} → Warehouse D seen → Event → Machine
decided_at w event = at_stamp (machine_of w) (stamp_of (state_of w.catalog) (reading_of event))

abbrev pub made_in : {D : Type 0} {seen : Ghosts D} → Warehouse D seen → Event → Option Commit
made_in w event = made (stored_of w.catalog) (machine_of w) event

abbrev pub led_to : {D : Type 0} {seen : Ghosts D} → Warehouse D seen → Event → Machine
led_to w event = (step (machine_of w) event).0

abbrev pub state_with : Stored → ℕ → Option Commit → State
state_with s stamp commit = stamped (meant (kept_after s commit)) stamp
