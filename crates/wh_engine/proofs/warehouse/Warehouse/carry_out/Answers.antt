use Rattle.std.proofs.Common.{◌≡◌, ◌≤◌, List, [], Option, None, refl, sym, ap, subst, ◌∙◌, arith, rules}
use Rattle.wh_part.specs.declared.meta.PartId.{PartId}
use Rattle.wh_value.specs.Limit.{bound}
use Rattle.wh_value.specs.declared.limit.Limit.TheVariants as limits
use Rattle.wh_reply.specs.Reply.{Reply, OverLimit}
use Rattle.wh_reply.specs.View.{reply_view}
use Rattle.wh_state.specs.Commit.{Commit}
use Rattle.wh_state.specs.Orderly.{IsOrderlyStored}
use Rattle.wh_state.specs.Sound.{Sound}
use Rattle.wh_state.specs.State.{stamped}
use Rattle.wh_journal.specs.Journal.{failed_of}
use Rattle.wh_machine.specs.Outcome.{Machine}
use Rattle.wh_machine.specs.Step.{reading_of, stamp_of}
use Rattle.wh_catalog.specs.Catalog.{stored_of, state_of, filed_of}
use Rattle.wh_catalog.specs.declared.catalog.Catalog.{Catalog}
use Rattle.wh_decide.specs.Event.{event_of}
use Rattle.wh_decide.specs.Decision.{commit_in, answer_of, machine_at, CanSettle}
use Rattle.wh_txn.specs.View.{sessions_of}
use Rattle.wh_engine.specs.Warehouse.{ShowsAll, IsOnlyRead, fetched_of, machine_of, decided_at, made_in, led_to}
use Rattle.wh_engine.specs.declared.fault.Halt.{Halt}
use Rattle.wh_engine.specs.Answers.{CarriesOut}
use Rattle.wh_engine.specs.Halts.{Halted, HaltedSome}
use Rattle.wh_engine.specs.Leaves.{Leaves}
use Rattle.wh_engine.proofs.ReadLemmas.{read_then, shows_behind, sound_behind, machine_behind, made_behind, led_behind}
use Rattle.wh_engine.proofs.StopLemmas.{leaves_still, leaves_behind, leaves_shown}
use Rattle.wh_engine.proofs.HaltLemmas.{reopens, halted_behind, passed_on}
use Rattle.wh_engine.proofs.CarryLemmas.{carries_nothing, carries_behind, answered_behind}
use Rattle.wh_engine.proofs.DecidedLemmas.{Comes, turns, unstamped}
use Rattle.wh_decide.specs.Asked.{AsksInEvent}
use Rattle.wh_decide.specs.RefreshAsked.{refresh_in, AsksAsReplied}
use Rattle.wh_decide.proofs.RefreshAskLaws.{refused_asks}
use Rattle.wh_engine.proofs.AskedLemmas.{unasked, asked_behind, asked_still}
use Rattle.wh_engine.proofs.warehouse.Warehouse.carry_out.Given.{Over}
use Rattle.wh_engine.proofs.warehouse.Warehouse.carry_out.Goals.{After-begin, After-decide, After-settle}
use Rattle.wh_engine.proofs.warehouse.Warehouse.carry_out.Goals as goal

-- ---- an earlier failure

module _ (g : Over) (c : After-begin g) where
  -- nothing was asked of the disk yet
  begun_faults : g.D.Disk.faults c.begin.new.self.fetch.disk ≡ g.D.Disk.faults c.args.self.now.fetch.disk
  begun_faults = ap g.D.Disk.faults c.begin.ensures.disk

  begun_leaves : Leaves c.args.self.now c.begin.new.self (led_to c.args.self.now (event_of c.args.event.now)).state
  begun_leaves =
      leaves_still g.met.D.Disk.only_now c.args.self.now c.begin.new.self _ c.begin.ensures.same.disk

pub returns-in-Some-clause-halted : goal.returns-in-Some-clause-halted
returns-in-Some-clause-halted g c = λ shown sound.
    reopens c.args.self.now c.begin.new.self _ c.in-Some.faults c.begin.ensures.same
    (omega (arith, begun_faults g (goal.at.returns-in-Some-clause-halted g c).After-begin))
    (sym (ap failed_of c.begin.ensures.same.journal) ∙ sym c.failed.ensures ∙ c.in-Some.is)

pub returns-in-Some-clause-stopped : goal.returns-in-Some-clause-stopped
returns-in-Some-clause-stopped g c = record {
  commit = None;
  halted = reopens c.args.self.now c.begin.new.self None c.in-Some.faults c.begin.ensures.same
      (omega (arith, begun_faults g (goal.at.returns-in-Some-clause-stopped g c).After-begin))
      (sym (ap failed_of c.begin.ensures.same.journal) ∙ sym c.failed.ensures ∙ c.in-Some.is);
}

pub returns-in-Some-clause-any_moment : goal.returns-in-Some-clause-any_moment
returns-in-Some-clause-any_moment g c = λ sound.
    begun_leaves g (goal.at.returns-in-Some-clause-any_moment g c).After-begin

pub returns-in-Some-clause-asks : goal.returns-in-Some-clause-asks
returns-in-Some-clause-asks g c =
    unasked c.args.self.now c.begin.new.self (event_of c.args.event.now) c.begin.ensures.begun

-- ---- no stamp is left

pub returns-then-bound-stamp-clause-asks : goal.returns-then-bound-stamp-clause-asks
returns-then-bound-stamp-clause-asks g c =
    unasked c.args.self.now c.begin.new.self (event_of c.args.event.now) c.begin.ensures.begun

pub returns-then-bound-stamp-clause-answered : goal.returns-then-bound-stamp-clause-answered
returns-then-bound-stamp-clause-answered g c = λ shown sound.
    let old = c.args.self.now in
    let new = c.begin.new.self in
    let same = c.begin.ensures.same in
    let e = event_of c.args.event.now in
    let none : c.failed.result ≡ None = search rules in
    let last = ap (λ (catalog : Catalog). (state_of catalog).last) same.catalog in
    let past : bound limits.Stamp ≤ stamp_of (state_of old.catalog) (reading_of e) =
    omega (
      arith,
      c.max-stamp.ensures,
      c.reading.ensures,
      c.last.ensures.last,
      last,
      c.bound.ensures,
      c.if-bound-stamp.true,
    ) in
    let h = unstamped (stored_of old.catalog) (machine_of old) e past in
    record {
      replied = sym (ap (λ (p : Machine × Reply). p.1) h.1);
      carried = carries_nothing old new _ _ h.0 same.disk
          (begun_faults g (goal.at.returns-then-bound-stamp-clause-answered g c).After-begin) same.journal
          (ap stored_of same.catalog) (ap filed_of same.catalog)
          (machine_behind old new same ∙ sym (ap (λ (p : Machine × Reply). p.0) h.1))
          (sym (ap failed_of same.journal) ∙ sym c.failed.ensures ∙ none);
    }

pub returns-then-bound-stamp-clause-carried : goal.returns-then-bound-stamp-clause-carried
returns-then-bound-stamp-clause-carried g c =
    let same = c.begin.ensures.same in
    let none : c.failed.result ≡ None = search rules in
    record {
      commit = None;
      machine = machine_of c.begin.new.self;
      carried = carries_nothing c.args.self.now c.begin.new.self _ _ refl same.disk
          (begun_faults g (goal.at.returns-then-bound-stamp-clause-carried g c).After-begin) same.journal
          (ap stored_of same.catalog) (ap filed_of same.catalog) refl
          (sym (ap failed_of same.journal) ∙ sym c.failed.ensures ∙ none);
    }

pub returns-then-bound-stamp-clause-any_moment : goal.returns-then-bound-stamp-clause-any_moment
returns-then-bound-stamp-clause-any_moment g c = λ sound.
    begun_leaves g (goal.at.returns-then-bound-stamp-clause-any_moment g c).After-begin

-- ---- nothing was decided

module _ (g : Over) (c : After-decide g) where
  read : IsOnlyRead c.args.self.now c.decide.new.self
  read = read_then c.args.self.now c.begin.new.self c.decide.new.self c.begin.ensures.same c.decide.ensures.same

  -- a halt of the reads, whatever the commit would have been
  unread : (commit : Option Commit) (halt : Halt) → Halted c.begin.new.self c.decide.new.self commit halt
      → Halted c.args.self.now c.decide.new.self commit halt
  unread commit halt halted =
      halted_behind c.args.self.now c.begin.new.self c.decide.new.self commit halt c.begin.ensures.same
      (omega (arith, ap g.D.Disk.faults c.begin.ensures.disk)) halted

  -- what is said of what was asked for behind the decision holds of the event
  asked_by : (Asks : Catalog → Machine → List PartId → List PartId → Type 0)
      → Asks c.decide.new.self.catalog (machine_at (stamped (state_of c.decide.new.self.catalog) c.max-stamp.result)
      (sessions_of c.decide.new.self.sessions)) (fetched_of c.begin.new.self) (fetched_of c.decide.new.self)
      → Asks c.args.self.now.catalog (decided_at c.args.self.now (event_of c.args.event.now)) []
      (fetched_of c.decide.new.self)
  asked_by Asks =
      let stamp : c.max-stamp.result ≡ stamp_of (state_of c.args.self.now.catalog) (reading_of (event_of c.args.event.now)) =
      omega (
        arith,
        c.reading.ensures,
        c.last.ensures.last,
        ap (λ (catalog : Catalog). (state_of catalog).last) c.begin.ensures.same.catalog,
        c.max-stamp.ensures,
      ) in
      asked_behind Asks c.args.self.now c.begin.new.self c.decide.new.self (event_of c.args.event.now) c.max-stamp.result
      read c.begin.ensures.begun stamp

  -- no other partition is asked for than the event's
  asked : AsksInEvent c.args.self.now.catalog (decided_at c.args.self.now (event_of c.args.event.now))
      (event_of c.args.event.now) [] (fetched_of c.decide.new.self)
  asked =
      asked_by (λ catalog m before after. AsksInEvent catalog m (event_of c.args.event.now) before after)
      c.decide.ensures.asks

pub returns-in_err-decision-clause-asks : goal.returns-in_err-decision-clause-asks
returns-in_err-decision-clause-asks g c = asked g (goal.at.returns-in_err-decision-clause-asks g c).After-decide

pub returns-in_err-decision-clause-halted : goal.returns-in_err-decision-clause-halted
returns-in_err-decision-clause-halted g c = λ shown sound.
    let commit = made_in c.args.self.now (event_of c.args.event.now) in
    let halt = c.in_err-decision.field-0.0 in
    passed_on c.from_residual.result halt
    (λ h. Halted c.args.self.now c.decide.new.self commit h) c.from_residual.ensures.1
    (unread g (goal.at.returns-in_err-decision-clause-halted g c).After-decide commit halt
    (c.in_err-decision.ensures.halted commit))

pub returns-in_err-decision-clause-stopped : goal.returns-in_err-decision-clause-stopped
returns-in_err-decision-clause-stopped g c =
    let halt = c.in_err-decision.field-0.0 in
    passed_on c.from_residual.result halt (λ h. HaltedSome c.args.self.now c.decide.new.self h)
    c.from_residual.ensures.1 (record {
      commit = None;
      halted = unread g (goal.at.returns-in_err-decision-clause-stopped g c).After-decide None halt
          (c.in_err-decision.ensures.halted None);
    })

pub returns-in_err-decision-clause-any_moment : goal.returns-in_err-decision-clause-any_moment
returns-in_err-decision-clause-any_moment g c = λ sound.
    leaves_still g.met.D.Disk.only_now c.args.self.now c.decide.new.self _
    (read g (goal.at.returns-in_err-decision-clause-any_moment g c).After-decide).disk

-- ---- what was decided is carried out

pub settle-requires : goal.settle-requires
settle-requires g c =
    let none : c.failed.result ≡ None = search rules in
    let same = c.decide.ensures.same in
    record {
      healthy = ap failed_of same.journal ∙ sym c.failed.ensures ∙ none;
      later = omega (
        arith,
        c.max-stamp.ensures,
        c.last.ensures.committed,
        ap (λ (catalog : Catalog). (stored_of catalog).last) same.catalog,
      );
      within = omega (arith, c.bound.ensures, c.if-bound-stamp.false);
      settles = subst (CanSettle (sessions_of c.decide.new.self.sessions) c.max-stamp.result)
          (sym c.into_parts-reply.ensures.settlement) c.in_ok-decision.ensures.settles;
    }

module _ (g : Over) (c : After-settle g) where
  read_first : IsOnlyRead c.args.self.now c.decide.new.self
  read_first = read_then c.args.self.now c.begin.new.self c.decide.new.self c.begin.ensures.same c.decide.ensures.same

  no_fault : g.D.Disk.faults c.decide.new.self.fetch.disk ≡ g.D.Disk.faults c.args.self.now.fetch.disk
  no_fault = c.in_ok-decision.ensures.no_fault ∙ ap g.D.Disk.faults c.begin.ensures.disk

  decided : ShowsAll c.args.self.now → Sound (state_of c.args.self.now.catalog)
      → Comes (stored_of c.decide.new.self.catalog) (machine_of c.decide.new.self)
      (event_of c.args.event.now) c.max-stamp.result c.into_parts-reply.result.1
      (reply_view c.into_parts-reply.result.0)
  decided shown sound =
      let w = c.decide.new.self in
      let same = sym c.decide.ensures.same.catalog in
      turns w.catalog (sessions_of w.sessions) (event_of c.args.event.now)
      c.reading.result c.last.result c.bound.result c.max-stamp.result c.in_ok-decision.decision _ _
      (subst (λ (catalog : Catalog). IsOrderlyStored (stored_of catalog)) same c.last.ensures.orderly)
      c.reading.ensures (c.last.ensures.last ∙ ap (λ (catalog : Catalog). (state_of catalog).last) same)
      c.bound.ensures c.max-stamp.ensures c.if-bound-stamp.false
      (c.in_ok-decision.ensures.decides (shows_behind c.args.self.now c.begin.new.self c.begin.ensures.same shown)
      (sound_behind c.args.self.now c.begin.new.self c.begin.ensures.same sound))
      c.into_parts-reply.ensures.settlement c.into_parts-reply.ensures.reply

  -- what the commit and the state are of the warehouse that the event came to
  commit_made : ShowsAll c.args.self.now → Sound (state_of c.args.self.now.catalog)
      → commit_in c.into_parts-reply.result.1 ≡ made_in c.args.self.now (event_of c.args.event.now)
  commit_made shown sound =
      sym (decided shown sound).commit
      ∙ made_behind c.args.self.now c.decide.new.self (event_of c.args.event.now) read_first

  any_moment : Sound (state_of c.args.self.now.catalog)
      → Leaves c.args.self.now c.settle.new.self (led_to c.args.self.now (event_of c.args.event.now)).state
  any_moment sound =
      let old = c.args.self.now in
      let mid = c.decide.new.self in
      let e = event_of c.args.event.now in
      leaves_shown g.met.D.Disk.only_now old c.settle.new.self (led_to old e).state
      (λ shown. leaves_behind g.met.D.Disk.only_now old mid c.settle.new.self (led_to old e).state read_first
      (subst (Leaves mid c.settle.new.self)
      (sym (ap (λ (m : Machine). m.state) (decided shown sound).leaves)
      ∙ ap (λ (m : Machine). m.state) (led_behind old mid e read_first)) c.settle.ensures.any_moment))

pub returns-in_err-settle-clause-halted : goal.returns-in_err-settle-clause-halted
returns-in_err-settle-clause-halted g c = λ shown sound.
    let at = (goal.at.returns-in_err-settle-clause-halted g c).After-settle in
    let old = c.args.self.now in
    let new = c.settle.new.self in
    let commit = made_in old (event_of c.args.event.now) in
    let halt = c.in_err-settle.field-0.0 in
    passed_on c.from_residual-in_err-settle.result halt (λ h. Halted old new commit h)
    c.from_residual-in_err-settle.ensures.1
    (halted_behind old c.decide.new.self new commit halt (read_first g at) (omega (arith, no_fault g at))
    (subst (λ (some : Option Commit). Halted c.decide.new.self new some halt) (commit_made g at shown sound)
    c.in_err-settle.ensures.halted))

pub returns-in_err-settle-clause-stopped : goal.returns-in_err-settle-clause-stopped
returns-in_err-settle-clause-stopped g c =
    let at = (goal.at.returns-in_err-settle-clause-stopped g c).After-settle in
    let old = c.args.self.now in
    let new = c.settle.new.self in
    let halt = c.in_err-settle.field-0.0 in
    passed_on c.from_residual-in_err-settle.result halt (λ h. HaltedSome old new h)
    c.from_residual-in_err-settle.ensures.1 (record {
      commit = commit_in c.into_parts-reply.result.1;
      halted = halted_behind old c.decide.new.self new _ halt (read_first g at) (omega (arith, no_fault g at))
          c.in_err-settle.ensures.halted;
    })

pub returns-in_err-settle-clause-any_moment : goal.returns-in_err-settle-clause-any_moment
returns-in_err-settle-clause-any_moment g c =
    any_moment g (goal.at.returns-in_err-settle-clause-any_moment g c).After-settle

pub returns-clause-answered : goal.returns-clause-answered
returns-clause-answered g c = λ shown sound.
    let at = (goal.at.returns-clause-answered g c).After-settle in
    let old = c.args.self.now in
    let mid = c.decide.new.self in
    let e = event_of c.args.event.now in
    let h = decided g at shown sound in
    answered_behind old mid c.settle.new.self e (reply_view c.into_parts-reply.result.0) (read_first g at)
    (no_fault g at)
    (record { replied = h.replied; carried = rw (h.commit, h.leaves) c.in_ok-settle.ensures.answered })

pub returns-clause-carried : goal.returns-clause-carried
returns-clause-carried g c =
    let at = (goal.at.returns-clause-carried g c).After-settle in
    record {
      commit = commit_in c.into_parts-reply.result.1;
      machine = machine_of c.settle.new.self;
      carried = carries_behind c.args.self.now c.decide.new.self c.settle.new.self _ _ (read_first g at)
          (no_fault g at) (subst (CarriesOut c.decide.new.self c.settle.new.self
          (commit_in c.into_parts-reply.result.1)) (sym c.in_ok-settle.ensures.answered.stepped)
          c.in_ok-settle.ensures.answered);
    }

pub returns-clause-any_moment : goal.returns-clause-any_moment
returns-clause-any_moment g c = any_moment g (goal.at.returns-clause-any_moment g c).After-settle

pub returns-in_err-settle-clause-asks : goal.returns-in_err-settle-clause-asks
returns-in_err-settle-clause-asks g c =
    asked_still (AsksInEvent c.args.self.now.catalog (decided_at c.args.self.now (event_of c.args.event.now))
    (event_of c.args.event.now) []) c.decide.new.self c.settle.new.self c.settle.ensures.unread
    (asked g (goal.at.returns-in_err-settle-clause-asks g c).After-decide)

pub returns-clause-asks : goal.returns-clause-asks
returns-clause-asks g c =
    asked_still (AsksInEvent c.args.self.now.catalog (decided_at c.args.self.now (event_of c.args.event.now))
    (event_of c.args.event.now) []) c.decide.new.self c.settle.new.self c.settle.ensures.unread
    (asked g (goal.at.returns-clause-asks g c).After-decide)

-- ---- what a refresh asks for

pub returns-then-bound-stamp-clause-fetches : goal.returns-then-bound-stamp-clause-fetches
returns-then-bound-stamp-clause-fetches g c =
    refused_asks c.args.self.now.catalog [] (fetched_of c.begin.new.self)
    (refresh_in (decided_at c.args.self.now (event_of c.args.event.now)) (event_of c.args.event.now))
    (OverLimit limits.Stamp)

pub returns-clause-fetches : goal.returns-clause-fetches
returns-clause-fetches g c =
    let old = c.args.self.now in
    let e = event_of c.args.event.now in
    let which = refresh_in (decided_at old e) e in
    let after = (goal.at.returns-clause-fetches g c).After-decide in
    asked_still
    (λ names. AsksAsReplied old.catalog which [] names (reply_view c.into_parts-reply.result.0))
    c.decide.new.self c.settle.new.self c.settle.ensures.unread
    (subst (AsksAsReplied old.catalog which [] (fetched_of c.decide.new.self)) (sym c.into_parts-reply.ensures.reply)
    (asked_by g after
    (λ catalog m before after. AsksAsReplied catalog (refresh_in m e) before after (answer_of c.in_ok-decision.decision))
    c.in_ok-decision.ensures.fetches))
