use Rattle.std.proofs.Common.{◌≡◌, refl, rules, None, ap, subst}
use Rattle.wh_machine.specs.Step.{step}
use Rattle.wh_world.specs.Told.{Rose}
use Rattle.wh_decide.specs.Event.{event_of}
use Rattle.wh_engine.specs.Warehouse.{machine_of}
use Rattle.wh_shell.specs.Fault.{fault_of_script}
use Rattle.wh_shell.specs.Point.{point_of}
use Rattle.wh_shell.specs.Reading.{unread, awaited}
use Rattle.wh_shell.specs.Serving.{HaltsBy, Stops}
use Rattle.wh_shell.specs.Timing.{timing_of, timed}
use Rattle.wh_shell.specs.World.{world_of}
use Rattle.wh_shell.proofs.CauseLemmas.{passed_on, script_cause, script_long, script_fills_none}
use Rattle.wh_shell.proofs.CountLemmas.{passed_reads, err_is, err_same, ok_isnt}
use Rattle.wh_shell.proofs.Progress.{answers_first, stops_first, stops_none}
use Rattle.wh_shell.proofs.TimingLemmas.{timed_gives, timed_ends}
use Rattle.wh_shell.proofs.TickingLemmas.{taken_end, taken_one, taken_unread, taken_halted, taken_passed}
use Rattle.wh_shell.proofs.Safety.{leaves_open, leaves_same, stays_none, none_safely}
use Rattle.wh_shell.proofs.serving.turn.Goals as goal

-- ---- the first event of what was left was answered

pub returns-clause-went : goal.returns-clause-went
returns-clause-went g c =
    let old = c.args.warehouse.now in
    let new = c.answer.new.warehouse in
    let event = event_of c.timed-event.result in
    let left = g.S.Source.left c.args.script.now in
    let left_new = g.S.Source.left c.next.new.source in
    let readings = g.C.Clock.readings c.args.clock.now in
    let readings_new = g.C.Clock.readings c.timed-event.new.clock in
    answers_first g.K.Sink old new event
    (awaited c.args.system readings c.args.reader.now left)
    (awaited c.args.system readings_new c.next.new.self left_new) c.args.script.now c.next.new.source
    c.args.out.now c.answer.new.out c.in_ok-refusals.refusals c.in_ok-refusals.ensures.few
    (timed_gives c.args.system readings readings_new (unread c.args.reader.now left) (unread c.next.new.self left_new)
    (event_of c.in-Some.event) event (rw c.in-Some.is at c.in_ok-event.ensures.turn) c.timed-event.ensures.event)
    c.in_ok-refusals.ensures.carried
    (λ told. leaves_open old new (step (machine_of old) event).0.state c.requires.ready told
    (c.answer.ensures.any_moment told.sound.state))

pub returns-clause-reads : goal.returns-clause-reads
returns-clause-reads g c = record {
  goes = c.in_ok-event.ensures.goes;
  progress = rw c.in-Some.is at c.in_ok-event.ensures.progress;
  counts = c.next.ensures.counts;
  taken = λ taken is. absurd (ok_isnt is);
  long = λ longer. absurd (ok_isnt (c.in_ok-event.ensures.long longer));
}

-- ---- no event was left

pub returns-in_default-clause-went : goal.returns-in_default-clause-went
returns-in_default-clause-went g c =
    let none : c.in_ok-event.field-0 ≡ None = search rules in
    let left = g.S.Source.left c.args.script.now in
    let left_new = g.S.Source.left c.next.new.source in
    record {
      ends = timed_ends c.args.system (g.C.Clock.readings c.args.clock.now) (unread c.args.reader.now left)
          (unread c.next.new.self left_new) left_new (rw none at c.in_ok-event.ensures.turn);
      reach = refl;
      disk = refl;
      out = refl;
    }

pub returns-in_default-clause-ready : goal.returns-in_default-clause-ready
returns-in_default-clause-ready g c = stays_none c.args.warehouse.now c.requires.ready

pub returns-in_default-clause-reads : goal.returns-in_default-clause-reads
returns-in_default-clause-reads g c = record {
  goes = c.in_ok-event.ensures.goes;
  progress = tt;
  counts = c.next.ensures.counts;
  taken = λ taken is. absurd (ok_isnt is);
  long = λ longer. absurd (ok_isnt (c.in_ok-event.ensures.long longer));
}

-- ---- no event was read

pub returns-in_err-event-clause-stopped : goal.returns-in_err-event-clause-stopped
returns-in_err-event-clause-stopped g c =
    let w = c.args.warehouse.now in
    let out = c.args.out.now in
    let left = awaited c.args.system (g.C.Clock.readings c.args.clock.now) c.args.reader.now
    (g.S.Source.left c.args.script.now) in
    let first = point_of w left c.args.script.now out in
    let new = world_of w.fetch.disk c.next.new.source out in
    let fault = c.in_err-event.field-0.0 in
    passed_on (Stops g.D.Disk g.S.Source g.K.Sink first new) c.from_residual.result (fault_of_script fault)
    c.from_residual.ensures.1
    (record {
      front = λ told es left. stops_none (machine_of w) es (g.K.Sink.held out);
      safe = none_safely g.D.Disk g.K.Sink g.met.D.Disk.counts_now first new refl refl
          (λ told. leaves_open w w (machine_of w).state c.requires.ready told
          (leaves_same g.met.D.Disk.only_now w (machine_of w).state));
      cause = script_cause g.D.Disk g.S.Source g.K.Sink first.world new c.next.new.self.script fault
          c.in_err-event.ensures.causes;
      full = λ len need is. absurd (script_fills_none fault len need is);
    })

pub returns-in_err-event-clause-reads : goal.returns-in_err-event-clause-reads
returns-in_err-event-clause-reads g c =
    let fault = c.in_err-event.field-0.0 in
    passed_reads c.args.reader.now.script c.next.new.self.script (g.S.Source.left c.args.script.now)
    (g.S.Source.left c.next.new.source) c.from_residual.result (fault_of_script fault) c.from_residual.ensures.1
    c.next.ensures.counts
    (λ taken is. script_long (Rose (g.S.Source.faults c.args.script.now) (g.S.Source.faults c.next.new.source))
    c.next.new.self.script fault taken is c.in_err-event.ensures.causes)
    (λ longer. ap fault_of_script (err_same fault _ (c.in_err-event.ensures.long longer)))

-- ---- the event is the first of what was left, and was stopped at

pub returns-in_err-refusals-clause-stopped : goal.returns-in_err-refusals-clause-stopped
returns-in_err-refusals-clause-stopped g c =
    let old = c.args.warehouse.now in
    let new = c.answer.new.warehouse in
    let event = event_of c.timed-event.result in
    let unread_old = unread c.args.reader.now (g.S.Source.left c.args.script.now) in
    let unread_new = unread c.next.new.self (g.S.Source.left c.next.new.source) in
    let readings = g.C.Clock.readings c.args.clock.now in
    let readings_new = g.C.Clock.readings c.timed-event.new.clock in
    let left = timed (timing_of c.args.system readings) unread_old in
    let left_new = timed (timing_of c.args.system readings_new) unread_new in
    let why = c.in_err-refusals.field-0.0 in
    passed_on (Stops g.D.Disk g.S.Source g.K.Sink (point_of old left c.args.script.now c.args.out.now)
    (world_of new.fetch.disk c.next.new.source c.answer.new.out)) c.from_residual-in_err-refusals.result why
    c.from_residual-in_err-refusals.ensures.1
    (stops_first g.K.Sink old new event left left_new c.args.script.now c.next.new.source c.args.out.now
    c.answer.new.out g.S.Source why
    (timed_gives c.args.system readings readings_new unread_old unread_new (event_of c.in-Some.event) event
    (rw c.in-Some.is at c.in_ok-event.ensures.turn) c.timed-event.ensures.event)
    (λ told. leaves_open old new (step (machine_of old) event).0.state c.requires.ready told
    (c.answer.ensures.any_moment told.sound.state))
    c.in_err-refusals.ensures.halts)

pub returns-in_err-refusals-clause-full : goal.returns-in_err-refusals-clause-full
returns-in_err-refusals-clause-full g c = λ len need is.
    let why = c.in_err-refusals.field-0.0 in
    (subst (HaltsBy g.K.Sink c.args.warehouse.now c.answer.new.warehouse (event_of c.timed-event.result) c.args.out.now
    c.answer.new.out) (err_is c.from_residual-in_err-refusals.result why _ c.from_residual-in_err-refusals.ensures.1 is)
    c.in_err-refusals.ensures.halts.cause).1

pub returns-in_err-refusals-clause-reads : goal.returns-in_err-refusals-clause-reads
returns-in_err-refusals-clause-reads g c =
    let why = c.in_err-refusals.field-0.0 in
    passed_reads c.args.reader.now.script c.next.new.self.script (g.S.Source.left c.args.script.now)
    (g.S.Source.left c.next.new.source) c.from_residual-in_err-refusals.result why
    c.from_residual-in_err-refusals.ensures.1
    c.next.ensures.counts
    (λ taken is. absurd (subst (HaltsBy g.K.Sink c.args.warehouse.now c.answer.new.warehouse
    (event_of c.timed-event.result) c.args.out.now c.answer.new.out) is c.in_err-refusals.ensures.halts.cause))
    (λ longer. absurd (ok_isnt (c.in_ok-event.ensures.long longer)))

-- ---- the readings of the clock

pub returns-clause-clock : goal.returns-clause-clock
returns-clause-clock g c =
    taken_one g.C.Clock c.args.system (unread c.args.reader.now (g.S.Source.left c.args.script.now))
    (unread c.next.new.self (g.S.Source.left c.next.new.source)) (event_of c.in-Some.event) c.args.clock.now
    c.timed-event.new.clock (rw c.in-Some.is at c.in_ok-event.ensures.turn) c.timed-event.ensures.clock

pub returns-in_default-clause-clock : goal.returns-in_default-clause-clock
returns-in_default-clause-clock g c =
    let none : c.in_ok-event.field-0 ≡ None = search rules in (
      refl,
      taken_end g.C.Clock c.args.system (unread c.args.reader.now (g.S.Source.left c.args.script.now))
          (unread c.next.new.self (g.S.Source.left c.next.new.source)) (g.S.Source.left c.next.new.source)
          (rw none at c.in_ok-event.ensures.turn),
    )

pub returns-in_err-event-clause-clock : goal.returns-in_err-event-clause-clock
returns-in_err-event-clause-clock g c =
    let left = unread c.args.reader.now (g.S.Source.left c.args.script.now) in
    let left_new = unread c.next.new.self (g.S.Source.left c.next.new.source) in
    taken_passed g.C.Clock c.args.system left left_new c.from_residual.result (fault_of_script c.in_err-event.field-0.0)
    c.args.clock.now c.args.clock.now c.from_residual.ensures.1
    (taken_unread g.C.Clock c.args.system left c.args.clock.now)

pub returns-in_err-refusals-clause-clock : goal.returns-in_err-refusals-clause-clock
returns-in_err-refusals-clause-clock g c =
    let left = unread c.args.reader.now (g.S.Source.left c.args.script.now) in
    let left_new = unread c.next.new.self (g.S.Source.left c.next.new.source) in
    taken_passed g.C.Clock c.args.system left left_new c.from_residual-in_err-refusals.result
    c.in_err-refusals.field-0.0 c.args.clock.now c.timed-event.new.clock c.from_residual-in_err-refusals.ensures.1
    (taken_halted g.C.Clock c.args.system left left_new (event_of c.in-Some.event) c.args.clock.now
    c.timed-event.new.clock (rw c.in-Some.is at c.in_ok-event.ensures.turn) c.timed-event.ensures.clock)
