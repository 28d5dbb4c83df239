-- A run whose file is full.
--     FillsFile     what the status says of a file, and how much was written
--     Fills         so where file and script are told
use Rattle.std.specs.Prelude.{◌≡◌, ℕ, List, Option}
use Rattle.wh_frame.specs.File.{GateEndsAt}
use Rattle.wh_state.specs.State.{State}
use Rattle.wh_state.specs.Stored.{Stored}
use Rattle.wh_machine.specs.Outcome.{Machine, opened}
use Rattle.wh_machine.specs.Step.{Event, text}
use Rattle.wh_machine.specs.Made.{overflow, fitting}
use Rattle.wh_world.specs.declared.disk.Disk as disks
use Rattle.wh_world.specs.declared.source.Source as sources
use Rattle.wh_world.specs.declared.sink.Sink as sinks
use Rattle.wh_shell.specs.Commits.{Says}
use Rattle.wh_shell.specs.Room.{FillsBy}
use Rattle.wh_shell.specs.Timing.{Timing}
use Rattle.wh_shell.specs.World.{World}
use Rattle.wh_shell.specs.Writing.{Writes}
use Rattle.wh_shell.specs.declared.fault.Fault.TheVariants.{FileFull}
use Rattle.wh_shell.specs.declared.status.Status.{Status}
use Rattle.wh_shell.specs.declared.status.Status.TheVariants.{Stopped}

pub record FillsFile (limit : ℕ) (file : List ℕ) (s : Stored) (start : Machine) (es : List Event)
    (held held_new : Option (List ℕ)) (status : Status) : Type 0 where
  -- its gate ends somewhere, and the room behind it is what the status says
  pub end : ℕ
  pub gate : GateEndsAt file end
  pub fills : FillsBy status (overflow limit end s start es)
  -- where it is full, each reply before that was written, and no more
  pub written : (len need : ℕ) → status ≡ Stopped (FileFull len need) →
      Writes (text start (fitting limit end s start es)) held held_new

abbrev pub Fills : {D S K : Type 0} → disks.Ghosts D → sources.Ghosts S → sinks.Ghosts K → ℕ → Timing →
    World D S K → World D S K → Status → Type 0
Fills d s k limit timing old new status = (file input : List ℕ) (stored : Stored) (start : State) (es : List Event) →
    Says timing (d.bytes old.disk) (s.left old.script) file input stored start es →
    FillsFile limit file stored (opened start) es (k.held old.out) (k.held new.out) status
