use Rattle.std.proofs.Common.{refl, sym, ap, ◌∙◌, subst}
use Rattle.std.specs.Prelude.{option_map}
use Rattle.wh_shell.specs.Events.{events}
use Rattle.wh_shell.specs.Promised.{RunsWithin}
use Rattle.wh_shell.specs.Ticking.{TakesFor}
use Rattle.wh_shell.specs.Timing.{timing_of}
use Rattle.wh_shell.specs.World.{world_of}
use Rattle.wh_shell.specs.declared.status.Status.{Status}
use Rattle.wh_shell.specs.declared.status.Status.TheVariants.{Stopped}
use Rattle.wh_shell.proofs.Opened.{opened_runs}
use Rattle.wh_shell.proofs.TickingLemmas.{taken_never}
use Rattle.wh_shell.proofs.Unopened.{failed_runs}
use Rattle.wh_shell.proofs.running.run_within.Goals as goal

-- the file was opened
pub returns-in-Ok-clause-runs : goal.returns-in-Ok-clause-runs
returns-in-Ok-clause-runs g c =
    opened_runs g.D.Disk g.S.Source g.K.Sink c.args.terms.limit
    (timing_of c.args.terms.system_clock (g.C.Clock.readings c.args.clock.now))
    (world_of c.args.disk c.args.script.now c.args.out.now)
    (world_of c.serve_and_close.result.1 c.serve_and_close.new.script c.serve_and_close.new.out)
    c.in-Ok.warehouse c.in-Ok.ensures.opened c.serve_and_close.result.0
    c.serve_and_close.ensures.ends c.serve_and_close.ensures.long

-- it wasn't
pub returns-in-Err-clause-runs : goal.returns-in-Err-clause-runs
returns-in-Err-clause-runs g c =
    let timing = timing_of c.args.terms.system_clock (g.C.Clock.readings c.args.clock.now) in
    let old = world_of c.args.disk c.args.script.now c.args.out.now in
    let new = world_of c.in-Err.disk c.args.script.now c.args.out.now in
    subst (RunsWithin g.D.Disk g.S.Source g.K.Sink c.args.terms.limit timing old new)
    (sym (c.of.ensures ∙ ap Stopped c.from.ensures))
    (failed_runs g.D.Disk g.S.Source g.K.Sink timing old new g.met.D.Disk.counts_now c.args.terms.limit c.in-Err.fault
    c.in-Err.ensures.refused refl refl)

pub returns-in-Err-clause-clock : goal.returns-in-Err-clause-clock
returns-in-Err-clause-clock g c =
    let left = option_map events (g.S.Source.left c.args.script.now) in
    let clock = c.args.clock.now in
    subst (λ (status : Status). TakesFor g.C.Clock c.args.terms.system_clock left status clock clock)
    (sym c.of.ensures)
    (taken_never g.C.Clock c.args.terms.system_clock left c.from.result clock)
