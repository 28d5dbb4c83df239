use Rattle.std.proofs.Common.{◌≡◌, ℕ, ◌+◌, ◌-◌, ◌^◌, ◌<◌, ◌≤◌, false, Some, Err, refl, ap, sym, subst, ◌∙◌, arith}
use Rattle.wh_world.specs.Told.{Told}
use Rattle.wh_fetch.specs.Device.{only_read_none}
use Rattle.wh_record.specs.View.{commit_of}
use Rattle.wh_filed.specs.Filed.{AllShown}
use Rattle.wh_journal.specs.Journal.{IsSame, end_of, limit_of, failed_of, need_of}
use Rattle.wh_journal.specs.Torn.{SameFront}
use Rattle.wh_state.specs.State.{State}
use Rattle.wh_state.specs.Commit.{Commit, Applies}
use Rattle.wh_state.specs.Spelling.{payload_of}
use Rattle.wh_state.specs.Written.{is_beyond, record_length}
use Rattle.wh_catalog.specs.Catalog.{stored_of}
use Rattle.wh_txn.specs.View.{sessions_of}
use Rattle.wh_decide.specs.Decision.{machine_at}
use Rattle.wh_engine.specs.Warehouse.{IsUntouched}
use Rattle.wh_engine.specs.Halts.{Halted}
use Rattle.wh_engine.proofs.FileLemmas.{Appends, Behind, Staged, Stages, filed_append, adds_commit, lists_same}
use Rattle.wh_engine.proofs.StopLemmas.{leaves_still, leaves_commit}
use Rattle.wh_engine.proofs.HaltLemmas.{untouched_behind, untouched, starved}
use Rattle.wh_engine.proofs.ReadLemmas.{read_none, right_beside, within_more}
use Rattle.wh_engine.proofs.CarryLemmas.{state_reached, has_room, record_fits, place_behind}
use Rattle.wh_engine.proofs.AppendLemmas.{Calls, Fails, is_full, append_halts, not_by_disk}
use Rattle.wh_engine.proofs.warehouse.Warehouse.commit.Given.{Over}
use Rattle.wh_engine.proofs.warehouse.Warehouse.commit.Goals.{In-Ok}
use Rattle.wh_engine.proofs.warehouse.Warehouse.commit.Goals as goal

-- ---- a record that was added

module _ (g : Over) (c : In-Ok g) where
  room : is_beyond (limit_of c.args.self.now.journal) (end_of c.args.self.now.journal) (Some (commit_of c.args.commit))
      ≡ false
  room =
      let old = c.args.self.now in
      let commit = commit_of c.args.commit in
      let payload = c.in_ok-framed.framed in
      has_room (limit_of old.journal) (end_of old.journal) commit
      (λ beyond. let full = is_full c.append.result old.journal c.reserve.new.self commit payload
      (record { same = c.reserve.ensures.same; healthy = c.requires.healthy; spelled = c.in_ok-framed.ensures.payload })
      c.append.ensures.refused.file_full beyond in absurd cc)

  grown : end_of c.append.new.self ≡ end_of c.args.self.now.journal + record_length (commit_of c.args.commit)
  grown = omega (
    arith,
    c.in-Ok.ensures.listed.added.end,
    c.reserve.ensures.same.end,
    ap need_of c.in_ok-framed.ensures.payload,
  )

-- ---- what the fetch keeps

pub invariant_of-self-in-Ok-2 : goal.invariant_of-self-in-Ok-2
invariant_of-self-in-Ok-2 g c =
    let at = (goal.at.invariant_of-self-in-Ok-2 g c).In-Ok in
    let w = c.args.self.now in
    let fits : end_of c.append.new.self < 2 ^ 60 =
    omega (arith, grown g at, record_fits w.journal (commit_of c.args.commit) (room g at)) in
    let last : c.records_end-self.result ≡ end_of c.append.new.self - 1 = c.records_end-self.ensures.last fits in
    let low : w.fetch.reach ≤ end_of c.reserve.new.self - 1 = omega (arith, w.front, c.reserve.ensures.same.end) in
    let moved : w.fetch.reach ≤ c.records_end-self.result = omega (arith, w.front, grown g at, last) in
    record {
      some_worker = w.some_worker;
      reach = c.append.ensures.reach;
      front = c.records_end-self.ensures.front;
      right = right_beside c.stays_beside.ensures w.fetch.cache.entries (g.D.Disk.bytes w.fetch.disk)
          (g.D.Disk.bytes c.append.new.disk) (end_of c.reserve.new.self - 1) w.fetch.reach low c.append.ensures.front
          w.within w.right;
      within = within_more w.fetch.cache.entries w.fetch.reach c.records_end-self.result moved w.within;
    }

pub invariant_of-self-in-Err : goal.invariant_of-self-in-Err
invariant_of-self-in-Err g c =
    let w = c.args.self.now in
    let same = c.reserve.ensures.same in
    let low : w.fetch.reach ≤ end_of c.reserve.new.self - 1 = omega (arith, w.front, same.end) in
    record {
      some_worker = w.some_worker;
      reach = c.append.ensures.reach;
      front = omega (arith, w.front, same.end, c.in-Err.ensures.listed.unlisted.1);
      right = right_beside c.stays_beside.ensures w.fetch.cache.entries (g.D.Disk.bytes w.fetch.disk)
          (g.D.Disk.bytes c.append.new.disk) (end_of c.reserve.new.self - 1) w.fetch.reach low c.append.ensures.front
          w.within w.right;
      within = w.within;
    }

-- ---- where it ends

-- up to the append the disk isn't touched
pub returns-in_err-framed-clause-halted : goal.returns-in_err-framed-clause-halted
returns-in_err-framed-clause-halted g c =
    starved c.from_residual.result c.args.self.now _ _ c.from_residual.ensures.1 c.requires.healthy
    (untouched_behind c.args.self.now _ (read_none c.args.self.now)) refl (omega arith)

pub returns-in_err-framed-clause-any_moment : goal.returns-in_err-framed-clause-any_moment
returns-in_err-framed-clause-any_moment g c = leaves_still g.met.D.Disk.only_now c.args.self.now _ _ (only_read_none g.D.Disk c.args.self.now.fetch.disk)

pub returns-in_err-reserve-clause-halted : goal.returns-in_err-reserve-clause-halted
returns-in_err-reserve-clause-halted g c =
    starved c.from_residual-in_err-reserve.result c.args.self.now _ _
    c.from_residual-in_err-reserve.ensures.1 c.requires.healthy
    (untouched refl c.reserve.ensures.same refl refl refl) refl (omega arith)

pub returns-in_err-reserve-clause-any_moment : goal.returns-in_err-reserve-clause-any_moment
returns-in_err-reserve-clause-any_moment g c = leaves_still g.met.D.Disk.only_now c.args.self.now _ _ (only_read_none g.D.Disk c.args.self.now.fetch.disk)

pub returns-in_err-outlined-clause-any_moment : goal.returns-in_err-outlined-clause-any_moment
returns-in_err-outlined-clause-any_moment g c =
    leaves_still g.met.D.Disk.only_now c.args.self.now _ _ (only_read_none g.D.Disk c.args.self.now.fetch.disk)

pub returns-in_err-undo-clause-halted : goal.returns-in_err-undo-clause-halted
returns-in_err-undo-clause-halted g c =
    starved c.from_residual-in_err-undo.result c.args.self.now _ _
    c.from_residual-in_err-undo.ensures.1 c.requires.healthy
    (untouched refl c.reserve.ensures.same c.in_err-undo.ensures.same c.in_err-undo.ensures.same_filed refl)
    (ap (λ (s : State). machine_at s (sessions_of c.args.self.now.sessions)) c.in_err-undo.ensures.same_state)
    (omega arith)

pub returns-in_err-undo-clause-any_moment : goal.returns-in_err-undo-clause-any_moment
returns-in_err-undo-clause-any_moment g c = leaves_still g.met.D.Disk.only_now c.args.self.now _ _ (only_read_none g.D.Disk c.args.self.now.fetch.disk)

-- the append leaves the commits with the new one or without
pub returns-in-Ok-clause-any_moment : goal.returns-in-Ok-clause-any_moment
returns-in-Ok-clause-any_moment g c =
    leaves_commit c.args.self.now _ c.reserve.new.self
    (commit_of c.args.commit) c.in_ok-framed.framed c.reserve.ensures.same c.in_ok-framed.ensures.payload
    (subst (Applies (stored_of c.args.self.now.catalog)) c.in_ok-outlined.ensures c.in_ok-undo.ensures.applies)
    (record { written = c.in_ok-framed.ensures.written; understood = c.requires.read })
    (λ payloads file told is lists only.
    (c.in-Ok.ensures.filed payloads file (record { told = told; spelled = is; lists = lists })).any_moment only)

pub returns-in-Ok-clause-answered : goal.returns-in-Ok-clause-answered
returns-in-Ok-clause-answered g c =
    let old = c.args.self.now in
    let commit = commit_of c.args.commit in
    let j = c.reserve.new.self in
    let k = c.append.new.self in
    let at : ℕ = c.next_place.result in
    let staged : Staged old.catalog c.settle.new.self commit at =
    subst (λ (outlined : Commit). Staged old.catalog c.settle.new.self outlined at) c.in_ok-outlined.ensures
    (record {
      applies = c.in_ok-undo.ensures.applies;
      applied = c.settle.ensures.stored ∙ c.in_ok-undo.ensures.applied;
      last = ap (λ (s : State). s.last) c.settle.ensures.state ∙ c.in_ok-undo.ensures.last;
      among = λ told shown. subst (AllShown told) (sym c.settle.ensures.filed) (c.in_ok-undo.ensures.filed told shown);
    }) in
    let same = c.reserve.ensures.same in
    let spelled = c.in_ok-framed.ensures.payload in
    let before = g.D.Disk.bytes old.fetch.disk in
    let after = g.D.Disk.bytes c.append.new.disk in
    let adds : Appends before after old.journal k c.in_ok-framed.framed =
    λ payloads file told is lists. (c.in-Ok.ensures.filed payloads file (record {
      told = told;
      spelled = is;
      lists = lists_same payloads old.journal j same lists;
    })).appended in
    let adds_it : Appends before after old.journal k (payload_of commit) =
    subst (Appends before after old.journal k) spelled adds in
    let front : Told (SameFront (end_of old.journal - 1)) before after =
    subst (λ (end : ℕ). Told (SameFront (end - 1)) before after) same.end c.in-Ok.ensures.front in
    let has = room g (goal.at.returns-in-Ok-clause-answered g c).In-Ok in
    let longer = grown g (goal.at.returns-in-Ok-clause-answered g c).In-Ok in
    let behind : Behind old.journal k at =
    record {
      place = place_behind old.journal commit at has (omega (arith, c.next_place.ensures, same.end));
      longer = omega (arith, longer);
    } in
    let stages : Stages old.catalog c.settle.new.self commit at =
    record {
      applies = staged.applies;
      applied = staged.applied;
      good = record { written = c.in_ok-framed.ensures.written; understood = c.requires.read };
      among = staged.among;
    } in
    record {
      stepped = ap (λ (s : State). machine_at s (sessions_of old.sessions))
          (state_reached old.catalog c.settle.new.self commit staged.applied staged.last);
      stored = staged.applied;
      filed = filed_append before after old.journal k old.catalog c.settle.new.self commit at c.in-Ok.ensures.told
          adds_it front behind stages;
      adds = adds_commit before after old.journal k old.catalog c.settle.new.self commit at adds_it front behind stages;
      told = c.in-Ok.ensures.told;
      durable = λ settled. record { each = c.in-Ok.ensures.durable };
      kept = λ e. absurd cc;
      room = has;
      grows = longer;
      healthy = c.requires.healthy;
      still_healthy = c.in-Ok.ensures.listed.healthy;
      no_fault = c.in-Ok.ensures.writes.no_fault;
    }

pub returns-clause-any_moment : goal.returns-clause-any_moment
returns-clause-any_moment g c =
    leaves_commit c.args.self.now _ c.reserve.new.self
    (commit_of c.args.commit) c.in_ok-framed.framed c.reserve.ensures.same c.in_ok-framed.ensures.payload
    (subst (Applies (stored_of c.args.self.now.catalog)) c.in_ok-outlined.ensures c.in_ok-undo.ensures.applies)
    (record { written = c.in_ok-framed.ensures.written; understood = c.requires.read })
    (λ payloads file told is lists only.
    (c.in-Err.ensures.filed payloads file (record { told = told; spelled = is; lists = lists })).any_moment only)

-- what was staged is undone
pub returns-clause-halted : goal.returns-clause-halted
returns-clause-halted g c =
    let old = c.args.self.now in
    let commit = commit_of c.args.commit in
    let j = c.reserve.new.self in
    let payload = c.in_ok-framed.framed in
    let fault = c.in-Err.fault in
    let same = c.reserve.ensures.same in
    let undoes = c.in_ok-undo.ensures.undoes in
    let stored = c.undo.ensures.stored old.catalog undoes in
    let filed = c.undo.ensures.filed old.catalog undoes in
    let says = c.append.ensures.refused in
    let calls : Calls old.journal j commit payload =
    record { same = same; healthy = c.requires.healthy; spelled = c.in_ok-framed.ensures.payload } in
    let fails : Fails c.append.result j payload (g.D.Disk.faults old.fetch.disk) (g.D.Disk.faults c.append.new.disk)
    (failed_of c.append.new.self) =
    record {
      needs_reopen = says.needs_reopen;
      file_full = says.file_full;
      disk_fault = says.disk_fault;
      failed = says.failed;
    } in
    subst (Halted old _ (Some commit)) (sym c.from.ensures)
    (append_halts c.append.result fault old _ j commit payload c.in-Err.is calls fails
    (λ other. not_by_disk (IsUntouched old _) fault other
    (λ len need is. let u = says.nothing_written len need (c.in-Err.is ∙ ap Err is) in
    untouched u.0 (subst (IsSame old.journal) (sym u.1) same) stored filed refl)
    (λ faults is. let u = says.untouched faults (c.in-Err.is ∙ ap Err is) in
    untouched u.0 (subst (IsSame old.journal) (sym u.1) same) stored filed refl))
    (ap (λ (s : State). machine_at s (sessions_of old.sessions)) (c.undo.ensures.state old.catalog undoes))
    c.append.ensures.writes.later)
