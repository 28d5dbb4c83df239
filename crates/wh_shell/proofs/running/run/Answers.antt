use Rattle.wh_shell.specs.Asked.{asked_by}
use Rattle.wh_shell.specs.World.{world_of}
use Rattle.wh_shell.proofs.Idle.{idle_carries}
use Rattle.wh_shell.proofs.running.run.Goals as goal

-- memory was wanting for the words
pub returns-in-Err-OutOfMemory-clause-task : goal.returns-in-Err-OutOfMemory-clause-task
returns-in-Err-OutOfMemory-clause-task g c =
    idle_carries g.D.Disk g.K.Sink g.met.D.Disk.counts_now g.met.D.Disk.only_now g.S.Source
    (g.C.Clock.readings c.args.clock.now) (world_of c.args.disk c.args.script.now c.args.out.now)
    (asked_by c.args.words.now)
