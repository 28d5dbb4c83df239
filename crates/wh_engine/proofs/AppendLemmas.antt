-- An append that fails, as a halt.
--     Fails            what it says of its causes
--     is_full          there was no room
--     append_halts     what the halt then leaves
--     not_by_disk      the other causes
use Rattle.std.proofs.Common.{◌≡◌, ℕ, ◌+◌, ◌<◌, ◌≤◌, List, Option, Some, None, Result, Err, refl, sym, ap, ◌∙◌, arith}
use Rattle.std.specs.Prelude.{IsTrue, ◌↔◌}
use Rattle.std.specs.Result.{IsErrOf}
use Rattle.wh_state.specs.Commit.{Commit}
use Rattle.wh_state.specs.Spelling.{payload_of}
use Rattle.wh_state.specs.Written.{is_beyond, record_length}
use Rattle.wh_world.specs.Told.{Rose}
use Rattle.wh_world.specs.declared.disk.Disk.{Ghosts}
use Rattle.wh_journal.specs.Journal.{IsSame, end_of, limit_of, failed_of, need_of}
use Rattle.wh_journal.specs.declared.journal.Journal.{Journal}
use Rattle.wh_journal.specs.declared.fault.AppendFault.{AppendFault}
use Rattle.wh_journal.specs.declared.fault.AppendFault.TheVariants as appends
use Rattle.wh_engine.specs.declared.warehouse.Warehouse.{Warehouse}
use Rattle.wh_engine.specs.Fault.{halt_of}
use Rattle.wh_engine.specs.Warehouse.{IsUntouched, machine_of}
use Rattle.wh_engine.specs.Halts.{Halted}
use Rattle.wh_engine.proofs.CarryLemmas.{lacks_room, is_lacking}

-- over the journal that it was called with, and the counts of faults before and after
pub record Fails {T : Type 0} (r : Result T AppendFault) (j : Journal) (payload : List ℕ)
    (before now : ℕ) (failed_now : Option ℕ) : Type 0 where
  pub needs_reopen : (faults : ℕ) → IsErrOf r (appends.NeedsReopen faults) ↔ (failed_of j ≡ Some faults)
  pub file_full : (len need : ℕ) → IsErrOf r (appends.FileFull len need)
      ↔ ((failed_of j ≡ None) × (limit_of j < end_of j + need_of payload) × (len ≡ end_of j) × (need ≡ need_of payload))
  pub disk_fault : IsErrOf r appends.DiskFault → Rose before now
  pub failed : IsErrOf r appends.DiskFault → failed_now ≡ Some now

-- with room for one more place, and the payload of a commit
pub record Calls (old j : Journal) (c : Commit) (payload : List ℕ) : Type 0 where
  pub same : IsSame old j
  pub healthy : failed_of old ≡ None
  pub spelled : payload ≡ payload_of c

-- where there is no room, FileFull is the answer
pub is_full : {T : Type 0} (r : Result T AppendFault) (old j : Journal) (c : Commit) (payload : List ℕ)
    → Calls old j c payload
    → ((len need : ℕ) → IsErrOf r (appends.FileFull len need)
    ↔ ((failed_of j ≡ None) × (limit_of j < end_of j + need_of payload) × (len ≡ end_of j) × (need ≡ need_of payload)))
    → IsTrue (is_beyond (limit_of old) (end_of old) (Some c))
    → IsErrOf r (appends.FileFull (end_of j) (need_of payload))
is_full r old j c payload calls full beyond =
    let size : need_of payload ≡ record_length c = ap need_of calls.spelled in
    let lacking : limit_of old < end_of old + record_length c = is_lacking (limit_of old) (end_of old) c beyond in
    (full (end_of j) (need_of payload)).1
    (calls.same.failed ∙ calls.healthy, omega (arith, calls.same.limit, calls.same.end), refl, refl)

pub append_halts : {D T : Type 0} {seen : Ghosts D} (r : Result T AppendFault)
    (fault : AppendFault) (old new : Warehouse D seen) (j : Journal) (c : Commit) (payload : List ℕ)
    → r ≡ Err fault → Calls old.journal j c payload
    → Fails r j payload (seen.faults old.fetch.disk) (seen.faults new.fetch.disk) (failed_of new.journal)
    → ((fault ≡ appends.DiskFault → ⊥) → IsUntouched old new) → machine_of new ≡ machine_of old
    → seen.faults old.fetch.disk ≤ seen.faults new.fetch.disk
    → Halted old new (Some c) (halt_of fault)
append_halts r appends.DiskFault old new j c payload is calls fails same state later = record {
  state = state;
  needs_reopen = λ n. (λ e. absurd cc, λ e. let healthy = calls.healthy in absurd cc);
  file_full = λ len need e. absurd cc;
  beyond = λ b e. let other = is_full r old.journal j c payload calls fails.file_full b in cc;
  disk_fault = λ e. fails.disk_fault is;
  failed = λ e. fails.failed is;
  untouched = λ other. absurd (other refl);
  read_fault = λ e. absurd cc;
  damaged = λ at e. absurd cc;
  sound = λ at e. absurd cc;
  later = later;
}
append_halts r (appends.FileFull len need) old new j c payload is calls fails same state later =
    let why = (fails.file_full len need).0 is in
    let size : need_of payload ≡ record_length c = ap need_of calls.spelled in
    let room : limit_of old.journal < end_of old.journal + record_length c =
    omega (arith, why.1, calls.same.limit, calls.same.end) in
    let at : len ≡ end_of old.journal = why.2 ∙ calls.same.end in
    let wants : need ≡ record_length c = why.3 ∙ size in
    record {
      state = state;
      needs_reopen = λ n. (λ e. absurd cc, λ e. let healthy = calls.healthy in absurd cc);
      file_full = λ l n e.
          let len_is : len ≡ l = cc in
          let need_is : need ≡ n = cc in
          (lacks_room (limit_of old.journal) (end_of old.journal) c room, sym len_is ∙ at, sym need_is ∙ wants);
      beyond = λ b e. cc;
      disk_fault = λ e. absurd cc;
      failed = λ e. absurd cc;
      untouched = λ other. same (λ e. cc);
      read_fault = λ e. absurd cc;
      damaged = λ at e. absurd cc;
      sound = λ at e. absurd cc;
      later = later;
    }
append_halts r (appends.NeedsReopen faults) old new j c payload is calls fails same state later =
    let failed : failed_of j ≡ Some faults = (fails.needs_reopen faults).0 is in
    let healthy : failed_of j ≡ None = calls.same.failed ∙ calls.healthy in
    absurd cc

-- where the disk is no cause, the append changes nothing
pub not_by_disk : (P : Type 0) (fault : AppendFault) → (fault ≡ appends.DiskFault → ⊥)
    → ((len need : ℕ) → fault ≡ appends.FileFull len need → P) → ((faults : ℕ) → fault ≡ appends.NeedsReopen faults → P)
    → P
not_by_disk P appends.DiskFault other full reopen = absurd (other refl)
not_by_disk P (appends.FileFull len need) other full reopen = full len need refl
not_by_disk P (appends.NeedsReopen faults) other full reopen = reopen faults refl
