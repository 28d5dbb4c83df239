use Rattle.std.proofs.Common.{List, ℕ, ◌^◌, subst, arith}
use Rattle.wh_generator.specs.Generator.{generator}
use Rattle.wh_shell.specs.Fault.{HasCause}
use Rattle.wh_shell.specs.Promised.{RunsWithin}
use Rattle.wh_shell.specs.Run.{EndsBy}
use Rattle.wh_shell.specs.Timing.{ByTicks}
use Rattle.wh_shell.specs.World.{world_of}
use Rattle.wh_shell.specs.declared.fault.Fault.TheVariants.{Script}
use Rattle.wh_shell.specs.declared.status.Status.{Status}
use Rattle.wh_shell.specs.declared.status.Status.TheVariants.{Stopped}
use Rattle.wh_shell.proofs.Idle.{idle_generates}
use Rattle.wh_shell.proofs.running.bench.Goals as goal

-- memory was wanting for the generator
pub returns-in_default-clause-generates : goal.returns-in_default-clause-generates
returns-in_default-clause-generates g c =
    idle_generates g.D.Disk g.K.Sink g.met.D.Disk.counts_now g.met.D.Disk.only_now c.args.rows c.args.seed c.args.disk
    c.args.out.now

-- the count of the generator's faults is 0
pub returns-clause-generates : goal.returns-clause-generates
returns-clause-generates g c =
    let rest : List ℕ = c.run_within.new.script in
    let status = c.run_within.result.0 in
    let runs : RunsWithin g.D.Disk generator g.K.Sink (2 ^ 40) ByTicks
    (world_of c.args.disk (c.in-Ok.script) c.args.out.now)
    (world_of c.run_within.result.1 rest c.run_within.new.out) status = c.run_within.ensures.runs in
    record {
      rest = rest;
      runs = subst (λ (bytes : List ℕ). RunsWithin g.D.Disk generator g.K.Sink (2 ^ 40) ByTicks
          (world_of c.args.disk bytes c.args.out.now)
          (world_of c.run_within.result.1 rest c.run_within.new.out) status) c.in-Ok.ensures runs;
      never = λ is.
          let rose : EndsBy (HasCause g.D.Disk generator g.K.Sink (2 ^ 40)
          (world_of c.args.disk c.in-Ok.script c.args.out.now)
          (world_of c.run_within.result.1 rest c.run_within.new.out)) (Stopped Script) =
          subst (λ (s : Status). EndsBy (HasCause g.D.Disk generator g.K.Sink (2 ^ 40)
          (world_of c.args.disk c.in-Ok.script c.args.out.now)
          (world_of c.run_within.result.1 rest c.run_within.new.out)) s) is runs.causes in
          omega (arith, rose);
    }
