-- Halts, by their causes.
--     untouched_behind, untouched     a warehouse that stayed as it was
--     reopens                  an earlier failure
--     starves, starved         want of memory
--     unread                   what wasn't read
--     halted_behind            behind calls that only read
--     passed_on, same_fault    a fault that is passed on as it is
use Rattle.std.proofs.Common.{◌≡◌, inl, inr, ℕ, ◌≤◌, List, Option, Some, None, Result, Ok, Err}
use Rattle.std.proofs.Common.{sym, ap, subst, ◌∙◌, arith}
use Rattle.std.specs.Prelude.{IsTrue, ◌↔◌}
use Rattle.std.specs.Result.{IfErr, IsErrOf, IsErrAnd}
use Rattle.wh_state.specs.Commit.{Commit}
use Rattle.wh_state.specs.Written.{added_length, is_beyond}
use Rattle.wh_world.specs.Told.{Rose}
use Rattle.wh_world.specs.declared.disk.Disk.{Ghosts}
use Rattle.wh_fetch.specs.Device.{only_read_on, Counts}
use Rattle.wh_fetch.specs.DiskFetch.{faults_of, damage_of, Damages, GoesOn}
use Rattle.wh_fetch.specs.declared.disk_fetch.DiskFetch.{DiskFetch}
use Rattle.wh_fetch.specs.declared.fault.FetchFault.{FetchFault}
use Rattle.wh_fetch.specs.declared.fault.FetchFault.TheVariants as fetches
use Rattle.wh_journal.specs.Journal.{IsSame, end_of, limit_of, failed_of}
use Rattle.wh_journal.specs.declared.journal.Journal.{Journal}
use Rattle.wh_catalog.specs.Catalog.{stored_of, filed_of}
use Rattle.wh_txn.specs.View.{sessions_of}
use Rattle.wh_journal.specs.declared.fault.OpenFault.{OpenFault}
use Rattle.wh_engine.specs.declared.fault.Halt.{Halt}
use Rattle.wh_engine.specs.declared.fault.Halt.TheVariants.{OutOfMemory, DiskFault, ReadFault, Damaged, FileFull}
use Rattle.wh_engine.specs.declared.fault.Halt.TheVariants.{NeedsReopen}
use Rattle.wh_engine.specs.declared.warehouse.Warehouse.{Warehouse}
use Rattle.wh_engine.specs.Fault.{halt_of_fetch}
use Rattle.wh_engine.specs.Warehouse.{IsUntouched, IsOnlyRead, IsBegun, ShowsAll, machine_of}
use Rattle.wh_engine.specs.Halts.{Halted, IsDamagedAt}
use Rattle.wh_engine.proofs.FileLemmas.{same_journal}
use Rattle.wh_engine.proofs.ReadLemmas.{read_same, machine_behind, shows_behind}

-- the disk itself failed where no partition was found damaged
read_rose : {D : Type 0} (seen : Ghosts D) (old new : DiskFetch D) → old.spoilt ≡ 0 → new.damaged ≡ None
    → old.damaged ≡ None → Damages seen old new → Rose (faults_of seen old) (faults_of seen new)
    → Rose (seen.faults old.disk) (seen.faults new.disk)
read_rose seen old new unspoilt none before (inl (place, spoilt)) rose = omega (arith, rose, spoilt, unspoilt)
read_rose seen old new unspoilt none before (inr (meta, damaged, place)) rose = absurd cc

found_damaged : {D : Type 0} (seen : Ghosts D) (old new : DiskFetch D) (at : ℕ) → new.damaged ≡ Some at
    → old.damaged ≡ None → Damages seen old new → IsDamagedAt (seen.bytes old.disk) (seen.size old.disk) at
found_damaged seen old new at is before (inl (place, spoilt)) = absurd cc
found_damaged seen old new at is before (inr (meta, damaged, place)) = (meta, damaged, cc)

-- a count that rose since later has risen since earlier
rose_since : (first mid last : ℕ) → first ≤ mid → Rose mid last → Rose first last
rose_since first mid last later rose = omega arith

module _ {D : Type 0} {seen : Ghosts D} where
  -- nothing but reads happened
  pub untouched_behind : (old new : Warehouse D seen) → IsOnlyRead old new → IsUntouched old new
  untouched_behind old new read = record {
    disk = read.disk;
    journal = subst (IsSame old.journal) (sym read.journal) (same_journal old.journal);
    stored = ap stored_of read.catalog;
    filed = ap filed_of read.catalog;
    sessions = ap sessions_of read.sessions;
  }

  pub untouched : {old new : Warehouse D seen} → new.fetch.disk ≡ old.fetch.disk → IsSame old.journal new.journal
      → stored_of new.catalog ≡ stored_of old.catalog → filed_of new.catalog ≡ filed_of old.catalog
      → sessions_of new.sessions ≡ sessions_of old.sessions
      → IsUntouched old new
  untouched {old} {new} disk journal stored filed sessions = record {
    disk = read_same old.fetch.disk new.fetch.disk disk;
    journal = journal;
    stored = stored;
    filed = filed;
    sessions = sessions;
  }

  pub reopens : (old new : Warehouse D seen) (commit : Option Commit) (faults : ℕ) → IsOnlyRead old new
      → seen.faults old.fetch.disk ≤ seen.faults new.fetch.disk → failed_of old.journal ≡ Some faults
      → Halted old new commit (NeedsReopen faults)
  reopens old new commit faults read later failed = record {
    state = machine_behind old new read;
    needs_reopen = λ n. (λ e. failed ∙ ap Some cc, λ e. ap NeedsReopen cc);
    file_full = λ len need e. absurd cc;
    beyond = λ b e. cc;
    disk_fault = λ e. absurd cc;
    failed = λ e. absurd cc;
    untouched = λ other. untouched_behind old new read;
    read_fault = λ e. absurd cc;
    damaged = λ at e. absurd cc;
    sound = λ at e. absurd cc;
    later = later;
  }

  pub starves : (old new : Warehouse D seen) (commit : Option Commit) → failed_of old.journal ≡ None
      → IsUntouched old new → machine_of new ≡ machine_of old
      → seen.faults old.fetch.disk ≤ seen.faults new.fetch.disk
      → Halted old new commit OutOfMemory
  starves old new commit healthy same state later = record {
    state = state;
    needs_reopen = λ n. (λ e. absurd cc, λ e. absurd cc);
    file_full = λ len need e. absurd cc;
    beyond = λ b e. cc;
    disk_fault = λ e. absurd cc;
    failed = λ e. absurd cc;
    untouched = λ other. same;
    read_fault = λ e. absurd cc;
    damaged = λ at e. absurd cc;
    sound = λ at e. absurd cc;
    later = later;
  }

  -- want of memory that is passed on
  pub starved : {T : Type 0} (r : Result T Halt) (old new : Warehouse D seen) (commit : Option Commit)
      → IsErrAnd r (λ halt. halt ≡ OutOfMemory) → failed_of old.journal ≡ None → IsUntouched old new
      → machine_of new ≡ machine_of old → seen.faults old.fetch.disk ≤ seen.faults new.fetch.disk
      → IfErr r (λ halt. Halted old new commit halt)
  starved (Ok x) old new commit gives healthy same state later = tt
  starved (Err h) old new commit gives healthy same state later =
      subst (Halted old new commit) (sym gives) (starves old new commit healthy same state later)

  -- ---- what wasn't read

  -- a halt in place of one of the journal
  other_halt : (old new : Warehouse D seen) (commit : Option Commit) (halt : Halt) → failed_of old.journal ≡ None
      → IsOnlyRead old new → seen.faults old.fetch.disk ≤ seen.faults new.fetch.disk
      → ((faults : ℕ) → halt ≡ NeedsReopen faults → ⊥) → ((len need : ℕ) → halt ≡ FileFull len need → ⊥)
      → (halt ≡ DiskFault → ⊥)
      → (halt ≡ ReadFault → Rose (seen.faults old.fetch.disk) (seen.faults new.fetch.disk))
      → ((at : ℕ) → halt ≡ Damaged at → IsDamagedAt (seen.bytes old.fetch.disk) (seen.size old.fetch.disk) at)
      → ((at : ℕ) → halt ≡ Damaged at → ShowsAll old → ⊥)
      → Halted old new commit halt
  other_halt old new commit halt healthy read later reopen full disk rose damaged sound = record {
    state = machine_behind old new read;
    needs_reopen = λ n. (λ e. absurd (reopen n e), λ e. absurd cc);
    file_full = λ len need e. absurd (full len need e);
    beyond = λ b e. disk e;
    disk_fault = λ e. absurd (disk e);
    failed = λ e. absurd (disk e);
    untouched = λ other. untouched_behind old new read;
    read_fault = rose;
    damaged = damaged;
    sound = sound;
    later = later;
  }

  -- where all that is filed is shown, no partition is found damaged
  undamaged : (old new : Warehouse D seen) (at : ℕ) → IsBegun old → damage_of new.fetch ≡ damage_of old.fetch
      → Some at ≡ new.fetch.damaged → ⊥
  undamaged old new at begun same is =
      let none : new.fetch.damaged ≡ None = ap (λ (d : ℕ × Option ℕ). d.1) same ∙ begun.damaged in
      cc

  pub unread : {A : Type 0} (r : Result A FetchFault) (fault : FetchFault) (found : Option ℕ)
      (old new : Warehouse D seen) (commit : Option Commit) → r ≡ Err fault → found ≡ new.fetch.damaged → IsBegun old
      → failed_of old.journal ≡ None → IsOnlyRead old new → GoesOn seen old.fetch new.fetch
      → Counts (faults_of seen old.fetch) (faults_of seen new.fetch) r
      → (ShowsAll old → damage_of new.fetch ≡ damage_of old.fetch)
      → Halted old new commit (halt_of_fetch fault found)
  unread r fetches.OutOfMemory found old new commit is damage begun healthy read goes counts sound =
      other_halt old new commit OutOfMemory healthy read goes.later.0 (λ n e. cc) (λ len need e. cc) (λ e. cc)
      (λ e. absurd cc) (λ at e. absurd cc) (λ at e. absurd cc)
  unread r fetches.Read None old new commit is damage begun healthy read goes counts sound =
      other_halt old new commit ReadFault healthy read goes.later.0 (λ n e. cc) (λ len need e. cc) (λ e. cc)
      (λ e. read_rose seen old.fetch new.fetch begun.spoilt (sym damage) begun.damaged goes.damages (counts.read is))
      (λ at e. absurd cc) (λ at e. absurd cc)
  unread r fetches.Read (Some at) old new commit is damage begun healthy read goes counts sound =
      other_halt old new commit (Damaged at) healthy read goes.later.0 (λ n e. cc) (λ len need e. cc) (λ e. cc)
      (λ e. absurd cc)
      (λ n e.
      let same : at ≡ n = cc in
      found_damaged seen old.fetch new.fetch n (sym damage ∙ ap Some same) begun.damaged goes.damages)
      (λ n e shown. undamaged old new at begun (sound shown) damage)

  -- ---- behind calls that only read

  pub halted_behind : (old mid new : Warehouse D seen) (commit : Option Commit) (halt : Halt) → IsOnlyRead old mid
      → seen.faults old.fetch.disk ≤ seen.faults mid.fetch.disk → Halted mid new commit halt
      → Halted old new commit halt
  halted_behind old mid new commit halt read later h =
      let first : ℕ = seen.faults old.fetch.disk in
      let then : ℕ = seen.faults mid.fetch.disk in
      let last : ℕ = seen.faults new.fetch.disk in
      record {
        state = h.state ∙ machine_behind old mid read;
        needs_reopen =
            subst (λ (j : Journal). (n : ℕ) → (halt ≡ NeedsReopen n) ↔ (failed_of j ≡ Some n)) read.journal
            h.needs_reopen;
        file_full = subst (λ (j : Journal). (len need : ℕ) → halt ≡ FileFull len need
            → IsTrue (is_beyond (limit_of j) (end_of j) commit) × (len ≡ end_of j) × (need ≡ added_length commit))
            read.journal h.file_full;
        beyond = subst (λ (j : Journal). IsTrue (is_beyond (limit_of j) (end_of j) commit) → halt ≡ DiskFault → ⊥)
            read.journal h.beyond;
        disk_fault = λ e. rose_since first then last later (h.disk_fault e);
        failed = h.failed;
        untouched = λ other. untouched_then old mid new read (h.untouched other);
        read_fault = λ e. rose_since first then last later (h.read_fault e);
        damaged = λ at e. damaged_before old mid at read (h.damaged at e);
        sound = λ at e shown. h.sound at e (shows_behind old mid read shown);
        later = omega (arith, later, h.later);
      }
    where
      untouched_then : (old mid new : Warehouse D seen) → IsOnlyRead old mid → IsUntouched mid new
          → IsUntouched old new
      untouched_then old mid new read same = record {
        disk = only_read_on seen old.fetch.disk mid.fetch.disk new.fetch.disk read.disk same.disk;
        journal = subst (λ (j : Journal). IsSame j new.journal) read.journal same.journal;
        stored = same.stored ∙ ap stored_of read.catalog;
        filed = same.filed ∙ ap filed_of read.catalog;
        sessions = same.sessions ∙ ap sessions_of read.sessions;
      }

      damaged_before : (old mid : Warehouse D seen) (at : ℕ) → IsOnlyRead old mid
          → IsDamagedAt (seen.bytes mid.fetch.disk) (seen.size mid.fetch.disk) at
          → IsDamagedAt (seen.bytes old.fetch.disk) (seen.size old.fetch.disk) at
      damaged_before old mid at read found =
          subst (λ (bytes : Option (List ℕ)). IsDamagedAt bytes (seen.size old.fetch.disk) at) read.disk.bytes
          (subst (λ (size : ℕ). IsDamagedAt (seen.bytes mid.fetch.disk) size at) read.disk.size found)

-- what holds of an error that is passed on
pub passed_on : {T E : Type 0} (r : Result T E) (passed : E) (P : E → Type 0)
    → IsErrAnd r (λ h. h ≡ passed) → P passed
    → IfErr r P
passed_on (Ok x) passed P gives holds = tt
passed_on (Err h) passed P gives holds = subst P (sym gives) holds

pub same_fault : {T : Type 0} (r : Result T OpenFault) (fault other : OpenFault) → IsErrAnd r (λ h. h ≡ fault)
    → IsErrOf r other → fault ≡ other
same_fault (Ok x) fault other gives is = absurd gives
same_fault (Err h) fault other gives is = cc
