-- What the words of a run ask for, and what it promises for that.
--     asked_by         the task, or none where the words aren't in the grammar
--     RefusesWords     it refuses words that aren't, and no others
--     Generates        it carries out the generated script
--     CarriesOut       it carries out a task
--     wants_clock      whether the system's clock is asked for
use Rattle.std.specs.Prelude.{◌≡◌, ◌≢◌, ◌⊎◌, ℕ, ◌^◌, Bool, false, List, map, Option, Some, None, String, string_bytes}
use Rattle.std.specs.Global.{Global}
use Rattle.wh_world.specs.declared.disk.Disk as disks
use Rattle.wh_world.specs.declared.source.Source as sources
use Rattle.wh_world.specs.declared.sink.Sink as sinks
use Rattle.wh_words.specs.Words.{asked}
use Rattle.wh_words.specs.declared.task.Task.{Task}
use Rattle.wh_words.specs.declared.task.Task.TheVariants.{Run, Bench}
use Rattle.wh_generator.specs.Generated.{generated}
use Rattle.wh_generator.specs.Generator.{generator}
use Rattle.wh_shell.specs.Promised.{RunsWithin}
use Rattle.wh_shell.specs.Timing.{timing_of, ByTicks}
use Rattle.wh_shell.specs.World.{World, world_of}
use Rattle.wh_shell.specs.declared.fault.Fault.TheVariants.{OutOfMemory, Script}
use Rattle.wh_shell.specs.declared.status.Status.{Status}
use Rattle.wh_shell.specs.declared.status.Status.TheVariants.{Usage, Stopped}

abbrev pub asked_by : List (String Global) → Option Task
asked_by words = asked (map string_bytes words)

-- memory for reading them may be wanting
abbrev pub RefusesWords : Option Task → Status → Type 0
RefusesWords None status = (status ≡ Usage) ⊎ (status ≡ Stopped OutOfMemory)
RefusesWords (Some task) status = status ≢ Usage

-- `rest` is what is left of the generated script, which can't fail
pub record Generates {D K : Type 0} (d : disks.Ghosts D) (k : sinks.Ghosts K) (rows seed : ℕ) (disk : D) (out : K)
    (disk_new : D) (out_new : K) (status : Status) : Type 0 where
  pub rest : List ℕ
  pub runs : RunsWithin d generator k (2 ^ 40) ByTicks (world_of disk (generated rows seed) out)
      (world_of disk_new rest out_new) status
  pub never : status ≢ Stopped Script

-- and leaves the other unread
abbrev pub Benches : {D S K : Type 0} → disks.Ghosts D → sinks.Ghosts K → ℕ → ℕ → World D S K → World D S K →
    Status → Type 0
Benches d k rows seed old new status =
    (new.script ≡ old.script) × Generates d k rows seed old.disk old.out new.disk new.out status

-- over a file of at most 2^40 bytes; the readings of the system's clock are those
abbrev pub CarriesOut : {D S K : Type 0} → disks.Ghosts D → sources.Ghosts S → sinks.Ghosts K → Option (List ℕ) →
    Task → World D S K → World D S K → Status → Type 0
CarriesOut d s k readings (Run workers system) old new status =
    RunsWithin d s k (2 ^ 40) (timing_of system readings) old new status
CarriesOut d s k readings (Bench workers rows seed) old new status = Benches d k rows seed old new status

abbrev pub wants_clock : Option Task → Bool
wants_clock None = false
wants_clock (Some (Run workers system)) = system
wants_clock (Some (Bench workers rows seed)) = false
