use Rattle.std.proofs.Common.{ℕ, ◌≡◌, ◌≤◌, sym, subst, rules}
use Rattle.std.specs.Prelude.{if◌then◌else◌}
use Rattle.wh_reply.specs.Reply.{Reply, print, is_refusal}
use Rattle.wh_reply.specs.View.{reply_view}
use Rattle.wh_machine.specs.Step.{step}
use Rattle.wh_decide.specs.Event.{event_of}
use Rattle.wh_engine.specs.Warehouse.{machine_of}
use Rattle.wh_engine.specs.Answers.{Answered}
use Rattle.wh_engine.specs.Leaves.{StandsForEither}
use Rattle.wh_shell.specs.Open.{IsTold}
use Rattle.wh_shell.specs.Serving.{HaltsBy, Halts}
use Rattle.wh_shell.specs.Writing.{Writes, WritesFront}
use Rattle.wh_shell.specs.Fault.{fault_of_halt}
use Rattle.wh_shell.specs.declared.fault.Fault.{Fault}
use Rattle.wh_shell.specs.declared.fault.Fault.TheVariants.{OutOfMemory, Output}
use Rattle.wh_shell.proofs.CauseLemmas.{passed_on, halt_cause}
use Rattle.wh_shell.proofs.CommitLemmas.{adds_made}
use Rattle.wh_shell.proofs.CountLemmas.{choice_few}
use Rattle.wh_shell.proofs.Survival.{leaves_now}
use Rattle.wh_shell.proofs.Safety.{leaves_open, open_stands, stays_open}
use Rattle.wh_shell.proofs.Halting.{halts_before, halts_behind, reach_carried}
use Rattle.wh_shell.proofs.Told.{shows_open}
use Rattle.wh_shell.proofs.serving.answer.Given.{Over}
use Rattle.wh_shell.proofs.serving.answer.Goals.{After-carry_out}
use Rattle.wh_shell.proofs.serving.answer.Goals as goal

module _ (g : Over) (c : After-carry_out g) where
  -- nothing of the reply is written yet
  halts : (why : Fault) →
      HaltsBy g.K.Sink c.args.warehouse.now c.carry_out.new.self (event_of c.args.event.now) c.args.out.now
      c.args.out.now why →
      Halts g.K.Sink c.args.warehouse.now c.carry_out.new.self (event_of c.args.event.now) c.args.out.now
      c.args.out.now why
  halts why cause =
      let old = c.args.warehouse.now in
      let new = c.carry_out.new.self in
      let m = machine_of old in
      let event = event_of c.args.event.now in
      halts_before g.K.Sink old new event c.args.out.now why
      (λ told. leaves_now g.D.Disk g.met.D.Disk.counts_now old.fetch.disk
      new.fetch.disk (StandsForEither m.state (step m event).0.state)
      (leaves_open old new (step m event).0.state c.requires told
      (c.carry_out.ensures.any_moment told.sound.state))) cause

-- ---- the reply was written

pub returns-clause-carried : goal.returns-clause-carried
returns-clause-carried g c = λ told.
    let old = c.args.warehouse.now in
    let new = c.carry_out.new.self in
    let event = event_of c.args.event.now in
    let h = c.in_ok-reply.ensures.answered (shows_open old c.requires told.told) told.sound.state in
    record {
      room = h.carried.room;
      reach = reach_carried old new event h.carried;
      adds = adds_made old new _ _ c.requires h.carried;
      written = subst (λ (r : Reply). Writes (print r) (g.K.Sink.held c.args.out.now)
          (g.K.Sink.held c.write_all.new.out)) h.replied (search rules);
      refused = subst (λ (r : Reply). c.refusals_in-refusals.result ≡ (if is_refusal r then 1 else 0)) h.replied
          c.refusals_in-refusals.ensures;
    }

pub returns-clause-few : goal.returns-clause-few
returns-clause-few g c =
    subst (λ (n : ℕ). n ≤ 1) (sym c.refusals_in-refusals.ensures) (choice_few (is_refusal (reply_view c.in_ok-reply.reply)))

pub returns-clause-ready : goal.returns-clause-ready
returns-clause-ready g c =
    let old = c.args.warehouse.now in
    stays_open old c.carry_out.new.self (event_of c.args.event.now) c.requires c.in_ok-reply.ensures.carried
    c.carry_out.ensures.limit
    (λ told. (c.in_ok-reply.ensures.answered (shows_open old c.requires told.told) told.sound.state).carried.stepped)

-- ---- the engine halted

pub returns-in_err-reply-clause-halts : goal.returns-in_err-reply-clause-halts
returns-in_err-reply-clause-halts g c =
    let old = c.args.warehouse.now in
    let new = c.carry_out.new.self in
    let event = event_of c.args.event.now in
    let out = c.args.out.now in
    let halt = c.in_err-reply.field-0.0 in
    passed_on (Halts g.K.Sink old new event out out) c.from_residual.result (fault_of_halt halt)
    c.from_residual.ensures.1
    (halts g (goal.at.returns-in_err-reply-clause-halts g c).After-carry_out (fault_of_halt halt)
    (halt_cause g.K.Sink old new event out halt c.requires c.in_err-reply.ensures.stopped
    (λ told. c.in_err-reply.ensures.halted (shows_open old c.requires told.told) told.sound.state)))

-- ---- no memory for the text of the reply

pub returns-in_err-print_reply-clause-halts : goal.returns-in_err-print_reply-clause-halts
returns-in_err-print_reply-clause-halts g c =
    let out = c.args.out.now in
    passed_on (Halts g.K.Sink c.args.warehouse.now c.carry_out.new.self (event_of c.args.event.now) out out)
    c.from_residual-in_err-print_reply.result OutOfMemory c.from_residual-in_err-print_reply.ensures.1
    (halts g (goal.at.returns-in_err-print_reply-clause-halts g c).After-carry_out OutOfMemory tt)

-- ---- the reply was printed, and a front of it written

pub returns-in_err-write_all-clause-halts : goal.returns-in_err-write_all-clause-halts
returns-in_err-write_all-clause-halts g c =
    let old = c.args.warehouse.now in
    let new = c.carry_out.new.self in
    let event = event_of c.args.event.now in
    let out = c.args.out.now in
    let out_new = c.write_all.new.out in
    let rose : HaltsBy g.K.Sink old new event out out_new Output = search rules in
    let answered : IsTold old → Answered old new event (reply_view c.in_ok-reply.reply) =
    λ told. c.in_ok-reply.ensures.answered (shows_open old c.requires told.told) told.sound.state in
    let stays = stays_open old new event c.requires c.in_ok-reply.ensures.carried c.carry_out.ensures.limit
    (λ told. (answered told).carried.stepped) in
    passed_on (Halts g.K.Sink old new event out out_new) c.from_residual-in_err-write_all.result Output
    c.from_residual-in_err-write_all.ensures.1
    (halts_behind g.K.Sink old new event out out_new Output
    (λ told. (answered told).carried.stepped)
    (λ told. open_stands g.met.D.Disk.only_now g.met.D.Disk.counts_now new stays.opens (stays.sound told))
    (λ told. subst (λ (r : Reply). WritesFront (print r) (g.K.Sink.held out) (g.K.Sink.held out_new))
    (answered told).replied (search rules)) rose)
