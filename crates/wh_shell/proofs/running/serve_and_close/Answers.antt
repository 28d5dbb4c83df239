use Rattle.std.proofs.Common.{sym, subst}
use Rattle.std.specs.Prelude.{option_map}
use Rattle.wh_shell.specs.Code.{status_of}
use Rattle.wh_shell.specs.Events.{events}
use Rattle.wh_shell.specs.Point.{point_of}
use Rattle.wh_shell.specs.Run.{StopsWhereTooLong}
use Rattle.wh_shell.specs.Serving.{EndsAs}
use Rattle.wh_shell.specs.Ticking.{TakesFor}
use Rattle.wh_shell.specs.Timing.{timing_of, timed}
use Rattle.wh_shell.specs.World.{world_of}
use Rattle.wh_shell.specs.declared.status.Status.{Status}
use Rattle.wh_shell.proofs.Ending.{served_ends}
use Rattle.wh_shell.proofs.running.serve_and_close.Goals as goal

-- the disk that is handed back is the warehouse's
pub returns-clause-ends : goal.returns-clause-ends
returns-clause-ends g c =
    let old = c.args.warehouse in
    let new = c.serve-served.new.warehouse in
    let left = timed (timing_of c.args.system (g.C.Clock.readings c.args.clock.now))
    (option_map events (g.S.Source.left c.args.script.now)) in
    let first = point_of old left c.args.script.now c.args.out.now in
    let ends = served_ends g.D.Disk g.S.Source g.K.Sink old new left c.args.script.now
    c.serve-served.new.script c.args.out.now c.serve-served.new.out c.serve-served.result
    c.serve-served.ensures.served c.serve-served.ensures.ready c.serve-served.ensures.stopped in
    subst (λ (status : Status). EndsAs g.D.Disk g.S.Source g.K.Sink first
    (world_of c.close.result c.serve-served.new.script c.serve-served.new.out) status) (sym c.of.ensures)
    (subst (λ (disk : _). EndsAs g.D.Disk g.S.Source g.K.Sink first
    (world_of disk c.serve-served.new.script c.serve-served.new.out) (status_of c.serve-served.result))
    (sym c.close.ensures.disk) ends)

pub returns-clause-long : goal.returns-clause-long
returns-clause-long g c =
    subst (λ (status : Status). StopsWhereTooLong g.S.Source c.args.script.now c.serve-served.new.script status)
    (sym c.of.ensures) c.serve-served.ensures.long

pub returns-clause-clock : goal.returns-clause-clock
returns-clause-clock g c =
    subst (λ (status : Status). TakesFor g.C.Clock c.args.system (option_map events (g.S.Source.left c.args.script.now))
    status c.args.clock.now c.serve-served.new.clock) (sym c.of.ensures) c.serve-served.ensures.clock
