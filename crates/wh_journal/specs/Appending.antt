-- What an append does.
--     IsJournalOf    a file of these payloads, which the journal lists
--     AppendsOver    over such a file: to its bytes, and to what a crash leaves of them
--     Adds           to the journal
--     Refuses        why nothing is added, in the order of the tests
use Rattle.std.specs.Prelude.{◌≡◌, ◌↔◌, ℕ, ◌+◌, ◌<◌, List, [], ◌∷◌, ◌++◌, length, Option, Some, None}
use Rattle.std.specs.Prelude.{Result, OnOk, OnErr, IsErrOf, ⊤}
use Rattle.wh_world.specs.Told.{Rose}
use Rattle.wh_world.specs.Crash.{Only}
use Rattle.wh_world.specs.declared.Disk.{Ghosts}
use Rattle.wh_frame.specs.File.{IsFileOf}
use Rattle.wh_journal.specs.declared.journal.Journal.{Journal}
use Rattle.wh_journal.specs.declared.fault.AppendFault.{AppendFault}
use Rattle.wh_journal.specs.declared.fault.AppendFault.TheVariants.{NeedsReopen, FileFull, DiskFault}
use Rattle.wh_journal.specs.Journal.{Lists, AddsPlace, places_in, end_of, limit_of, failed_of, need_of}
use Rattle.wh_journal.specs.Torn.{HasWithOrWithout}
use Rattle.wh_journal.specs.Crash.{LeavesOnly}

pub record IsJournalOf (payloads : List (List ℕ)) (file : List ℕ) (bytes : Option (List ℕ)) (j : Journal) : Type 0
  where
    pub told : bytes ≡ Some file
    pub spelled : IsFileOf payloads file
    pub lists : Lists payloads j

pub record AppendsOver {D : Type 0} (d : Ghosts D) (old new : D) (j : Journal) (payloads : List (List ℕ))
    (file payload : List ℕ) (result : Result ⊤ AppendFault) : Type 0 where
  -- the payload is added, to the file and the journal
  pub appended : OnOk result
      (((now : List ℕ) × (d.bytes new ≡ Some now) × IsFileOf (payloads ++ payload ∷ []) now)
      × Lists (payloads ++ payload ∷ []) j)
  -- at a fault of the disk the file has it or not
  pub torn : IsErrOf result DiskFault
      → (now : List ℕ) × (d.bytes new ≡ Some now) × HasWithOrWithout payloads payload now
  -- and so has what a crash leaves at any moment of the call, whatever it answers
  pub any_moment : Only file (d.may_leave old)
      → LeavesOnly d.moment d.left_since old new (HasWithOrWithout payloads payload)

pub record Adds (old new : Journal) (payload : List ℕ) (result : Result ⊤ AppendFault) : Type 0 where
  pub added : OnOk result (AddsPlace old new (length payload))
  pub unlisted : OnErr result ((places_in new ≡ places_in old) × (end_of new ≡ end_of old))
  pub limit : limit_of new ≡ limit_of old
  pub healthy : OnOk result (failed_of new ≡ None)

pub record Refuses {D : Type 0} (d : Ghosts D) (old new : D) (j now : Journal) (payload : List ℕ)
    (result : Result ⊤ AppendFault) : Type 0 where
  pub needs_reopen : (faults : ℕ) → IsErrOf result (NeedsReopen faults) ↔ (failed_of j ≡ Some faults)
  pub file_full : (len need : ℕ)
      → IsErrOf result (FileFull len need)
      ↔ ((failed_of j ≡ None) × (limit_of j < end_of j + need_of payload) × (len ≡ end_of j) × (need ≡ need_of payload))
  pub disk_fault : IsErrOf result DiskFault → Rose (d.faults old) (d.faults new)
  -- the count that the journal keeps from then on
  pub failed : IsErrOf result DiskFault → failed_of now ≡ Some (d.faults new)
  -- no call of the disk was made
  pub untouched : (faults : ℕ) → IsErrOf result (NeedsReopen faults) → (new ≡ old) × (now ≡ j)
  pub nothing_written : (len need : ℕ) → IsErrOf result (FileFull len need) → (new ≡ old) × (now ≡ j)
