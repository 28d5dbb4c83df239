use Rattle.std.proofs.Common.{◌≡◌, None, ap, arith, rules}
use Rattle.std.specs.Prelude.{option_map, Err}
use Rattle.wh_journal.specs.Journal.{limit_of}
use Rattle.wh_engine.specs.Warehouse.{machine_of}
use Rattle.wh_shell.specs.Events.{events}
use Rattle.wh_shell.specs.Point.{point_of}
use Rattle.wh_shell.specs.Reading.{unread, awaited}
use Rattle.wh_shell.specs.Room.{reach_of}
use Rattle.wh_shell.specs.Run.{StopsWhereTooLong}
use Rattle.wh_shell.specs.Serving.{Stops}
use Rattle.wh_shell.specs.Timing.{timing_of, timed}
use Rattle.wh_shell.specs.World.{world_of}
use Rattle.wh_shell.specs.Ticking.{TakesFor}
use Rattle.wh_shell.specs.declared.fault.Fault.{Fault}
use Rattle.wh_shell.specs.declared.status.Status.{Status}
use Rattle.wh_shell.proofs.Progress.{goes_not_yet, goes_more, stops_more, serves_all}
use Rattle.wh_shell.proofs.CauseLemmas.{passed_on}
use Rattle.wh_shell.proofs.CountLemmas.{counts_none, counts_on, long_read, long_stop, status_passed}
use Rattle.wh_shell.proofs.CountLemmas.{err_same, ok_isnt}
use Rattle.wh_shell.proofs.Safety.{leaves_open, leaves_same, stays_none, stays_then, none_safely}
use Rattle.wh_shell.proofs.TickingLemmas.{taken_not_yet, taken_on, taken_all, taken_stop}
use Rattle.wh_shell.proofs.serving.serve.Goals as goal

-- nothing was taken yet
pub turns-init : goal.turns-init
turns-init g c =
    let w = c.args.warehouse.now in
    let left = g.S.Source.left c.args.script.now in
    let readings = g.C.Clock.readings c.args.clock.now in
    let timing = timing_of c.args.system readings in
    record {
      goes =
          goes_not_yet g.D.Disk g.K.Sink (limit_of w.journal) (reach_of w) (timed timing (option_map events left))
          (awaited c.args.system readings c.new-reader.result left) (world_of w.fetch.disk c.args.script.now c.args.out.now)
          (ap (timed timing) (c.new-reader.ensures.unread left))
          (λ told. leaves_open w w (machine_of w).state c.requires told
          (leaves_same g.met.D.Disk.only_now w (machine_of w).state));
      few = omega arith;
      fault = c.new-reader.ensures.fault;
      ready = stays_none w c.requires;
      counts = counts_none c.new-reader.result.script left;
      later = record { disk = omega arith; script = omega arith; out = omega arith };
      clock = taken_not_yet g.C.Clock c.args.system (option_map events left) (unread c.new-reader.result left)
          c.args.clock.now (c.new-reader.ensures.unread left);
    }

-- one more event was carried out
pub turns-preserved : goal.turns-preserved
turns-preserved g c =
    let old = c.turns.warehouse in
    let left = g.S.Source.left c.args.script.now in
    let left_old = g.S.Source.left c.turns.script in
    let left_new = g.S.Source.left c.turn.new.script in
    let answers = rw c.in-Some.is at c.in_ok-found.ensures.went in
    let reads = rw c.in-Some.is at c.in_ok-found.ensures.reads in
    let ready = c.in_ok-found.ensures.ready in
    let so_far = c.turns.invariant in
    let system = c.args.system in
    record {
      goes = goes_more g.D.Disk g.K.Sink
          (point_of c.args.warehouse.now
          (timed (timing_of system (g.C.Clock.readings c.args.clock.now)) (option_map events left))
          c.args.script.now c.args.out.now)
          (point_of old (awaited system (g.C.Clock.readings c.turns.clock) c.turns.reader left_old)
          c.turns.script c.turns.out)
          (point_of c.turn.new.warehouse
          (awaited system (g.C.Clock.readings c.turn.new.clock) c.turn.new.reader left_new)
          c.turn.new.script c.turn.new.out)
          c.turns.refused c.in-Some.refusals so_far.ready.limit so_far.ready.sound so_far.goes answers;
      few = omega (arith, answers.few, reads.progress, so_far.few);
      fault = reads.goes;
      ready = stays_then c.args.warehouse.now old c.turn.new.warehouse so_far.ready ready;
      counts = counts_on c.new-reader.result.script c.turns.reader.script c.turn.new.reader.script
          left left_old left_new so_far.counts reads.counts;
      later = record {
        disk = omega (arith, c.turn.ensures.later.disk, so_far.later.disk);
        script = omega (arith, c.turn.ensures.later.script, so_far.later.script);
        out = omega (arith, c.turn.ensures.later.out, so_far.later.out);
      };
      clock = taken_on g.C.Clock system (option_map events left) (unread c.turns.reader left_old)
          (unread c.turn.new.reader left_new) c.args.clock.now c.turns.clock c.turn.new.clock so_far.clock
          (rw c.in-Some.is at c.in_ok-found.ensures.clock);
    }

-- ---- a turn was stopped

pub returns-in_err-found-clause-stopped : goal.returns-in_err-found-clause-stopped
returns-in_err-found-clause-stopped g c =
    let system = c.args.system in
    let first = point_of c.args.warehouse.now (timed (timing_of system (g.C.Clock.readings c.args.clock.now))
    (option_map events (g.S.Source.left c.args.script.now))) c.args.script.now c.args.out.now in
    let now = point_of c.turns.warehouse (awaited system (g.C.Clock.readings c.turns.clock) c.turns.reader
    (g.S.Source.left c.turns.script)) c.turns.script c.turns.out in
    let new = world_of c.turn.new.warehouse.fetch.disk c.turn.new.script c.turn.new.out in
    let why = c.in_err-found.field-0.0 in
    let so_far = c.turns.invariant in
    passed_on (Stops g.D.Disk g.S.Source g.K.Sink first new) c.from_residual.result why c.from_residual.ensures.1
    (stops_more g.D.Disk g.K.Sink g.S.Source first now new c.turns.refused why so_far.ready.limit
    so_far.ready.told so_far.ready.sound so_far.later so_far.goes c.in_err-found.ensures.stopped)

pub returns-in_err-found-clause-long : goal.returns-in_err-found-clause-long
returns-in_err-found-clause-long g c =
    let left = g.S.Source.left c.args.script.now in
    let left_new = g.S.Source.left c.turn.new.script in
    let reader = c.new-reader.result.script in
    let last = c.turn.new.reader.script in
    let why = c.in_err-found.field-0.0 in
    let reads = c.in_err-found.ensures.reads in
    status_passed (StopsWhereTooLong g.S.Source c.args.script.now c.turn.new.script) c.from_residual.result why
    c.from_residual.ensures.1
    (long_stop g.S.Source c.args.script.now c.turn.new.script reader last c.new-reader.ensures.taken
    (counts_on reader c.turns.reader.script last left (g.S.Source.left c.turns.script) left_new
    c.turns.invariant.counts reads.counts)
    why (λ longer. err_same why _ (reads.long longer))
    (λ taken is. reads.taken taken (ap (λ (f : Fault). Err f) is)))

-- ---- no event was left

pub returns-in_default-clause-served : goal.returns-in_default-clause-served
returns-in_default-clause-served g c =
    let old = c.turns.warehouse in
    let system = c.args.system in
    let first = point_of c.args.warehouse.now (timed (timing_of system (g.C.Clock.readings c.args.clock.now))
    (option_map events (g.S.Source.left c.args.script.now))) c.args.script.now c.args.out.now in
    let now = point_of old (awaited system (g.C.Clock.readings c.turns.clock) c.turns.reader
    (g.S.Source.left c.turns.script)) c.turns.script c.turns.out in
    let new = point_of c.turn.new.warehouse (awaited system (g.C.Clock.readings c.turn.new.clock) c.turn.new.reader
    (g.S.Source.left c.turn.new.script)) c.turn.new.script c.turn.new.out in
    let none : c.in_ok-found.found ≡ None = search rules in
    let finds = rw none at c.in_ok-found.ensures.went in
    let so_far = c.turns.invariant in
    serves_all g.D.Disk g.K.Sink g.S.Source first now new c.turns.refused so_far.ready.sound so_far.goes finds
    (none_safely g.D.Disk g.K.Sink g.met.D.Disk.counts_now now new.world finds.out finds.disk
    (λ told. leaves_open old old (machine_of old).state so_far.ready.opens told
    (leaves_same g.met.D.Disk.only_now old (machine_of old).state)))

pub returns-in_default-clause-ready : goal.returns-in_default-clause-ready
returns-in_default-clause-ready g c =
    stays_then c.args.warehouse.now c.turns.warehouse c.turn.new.warehouse c.turns.invariant.ready
    c.in_ok-found.ensures.ready

pub returns-in_default-clause-long : goal.returns-in_default-clause-long
returns-in_default-clause-long g c =
    let left = g.S.Source.left c.args.script.now in
    let left_new = g.S.Source.left c.turn.new.script in
    let reader = c.new-reader.result.script in
    let last = c.turn.new.reader.script in
    let reads = c.in_ok-found.ensures.reads in
    long_read g.S.Source c.args.script.now c.turn.new.script reader last c.new-reader.ensures.taken
    (counts_on reader c.turns.reader.script last left (g.S.Source.left c.turns.script) left_new
    c.turns.invariant.counts reads.counts)
    c.turns.refused (λ longer. ok_isnt (reads.long longer))

-- ---- the readings of the clock

pub returns-in_err-found-clause-clock : goal.returns-in_err-found-clause-clock
returns-in_err-found-clause-clock g c =
    let left = option_map events (g.S.Source.left c.args.script.now) in
    let why = c.in_err-found.field-0.0 in
    status_passed (λ (status : Status). TakesFor g.C.Clock c.args.system left status c.args.clock.now c.turn.new.clock)
    c.from_residual.result why c.from_residual.ensures.1
    (taken_stop g.C.Clock c.args.system left (unread c.turns.reader (g.S.Source.left c.turns.script)) why
    c.args.clock.now c.turns.clock c.turn.new.clock c.turns.invariant.clock c.in_err-found.ensures.clock)

pub returns-in_default-clause-clock : goal.returns-in_default-clause-clock
returns-in_default-clause-clock g c =
    let none : c.in_ok-found.found ≡ None = search rules in
    let ends = rw none at c.in_ok-found.ensures.clock in
    taken_all g.C.Clock c.args.system (option_map events (g.S.Source.left c.args.script.now))
    (unread c.turns.reader (g.S.Source.left c.turns.script)) c.turns.refused c.args.clock.now c.turns.clock
    c.turn.new.clock c.turns.invariant.clock ends.1 ends.0
