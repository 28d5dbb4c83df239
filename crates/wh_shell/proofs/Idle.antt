-- A run for which memory was wanting before anything was opened.
--     idle_generates     of the generated script
--     idle_carries       of what the words ask for
use Rattle.std.proofs.Common.{ℕ, ◌^◌, ◌≤◌, List, Option, Some, None, refl}
use Rattle.std.specs.Prelude.{IfSome}
use Rattle.wh_world.specs.declared.disk.Disk as disks
use Rattle.wh_world.specs.declared.source.Source as sources
use Rattle.wh_world.specs.declared.sink.Sink as sinks
use Rattle.wh_words.specs.declared.task.Task.{Task}
use Rattle.wh_words.specs.declared.task.Task.TheVariants.{Run, Bench}
use Rattle.wh_generator.specs.Generated.{generated}
use Rattle.wh_generator.specs.Generator.{generator}
use Rattle.wh_shell.specs.Asked.{Generates, CarriesOut}
use Rattle.wh_shell.specs.Timing.{timing_of, ByTicks}
use Rattle.wh_shell.specs.World.{World, world_of}
use Rattle.wh_shell.specs.declared.fault.Fault.TheVariants.{OutOfMemory}
use Rattle.wh_shell.specs.declared.status.Status.TheVariants.{Stopped}
use Rattle.wh_shell.proofs.Unopened.{idle_runs}

module _ {D K : Type 0} (d : disks.Ghosts D) (k : sinks.Ghosts K)
    (counts_now : (disk : D) (t : ℕ) (image : List ℕ) → t ≤ d.moment disk → d.may_leave disk image →
    d.left_since disk t image)
    (only_now : (disk : D) (image : List ℕ) → d.left_since disk (d.moment disk) image → d.may_leave disk image) where
  pub idle_generates : (rows seed : ℕ) (disk : D) (out : K) →
      Generates d k rows seed disk out disk out (Stopped OutOfMemory)
  idle_generates rows seed disk out = record {
    rest = generated rows seed;
    runs = idle_runs d generator k ByTicks (world_of disk (generated rows seed) out) counts_now only_now (2 ^ 40);
    never = λ is. absurd cc;
  }

  pub idle_carries : {S : Type 0} (s : sources.Ghosts S) (readings : Option (List ℕ)) (world : World D S K)
      (asked : Option Task) →
      IfSome asked (λ task. CarriesOut d s k readings task world world (Stopped OutOfMemory))
  idle_carries s readings world None = tt
  idle_carries s readings world (Some (Run workers system)) =
      idle_runs d s k (timing_of system readings) world counts_now only_now (2 ^ 40)
  idle_carries s readings world (Some (Bench workers rows seed)) =
      (refl, idle_generates rows seed world.disk world.out)
