-- The number of workers changes no answer.
--     with_one_worker     a task, by one worker
--     AskAlike            words that ask for one task, each by its own number of workers
--     PromisesAlike       what a run of some words promises, a run of the others does
--     StartAlike          two worlds of which the same is told
--     WritesAlike         two runs that start alike and read their scripts to the ends write the same
use Rattle.std.specs.Prelude.{◌≡◌, ℕ, List, Option, Some, option_map, String}
use Rattle.std.specs.Global.{Global}
use Rattle.wh_state.specs.State.{State}
use Rattle.wh_state.specs.File.{Stands}
use Rattle.wh_machine.specs.Step.{Event}
use Rattle.wh_world.specs.declared.disk.Disk as disks
use Rattle.wh_world.specs.declared.source.Source as sources
use Rattle.wh_world.specs.declared.sink.Sink as sinks
use Rattle.wh_words.specs.declared.task.Task.{Task}
use Rattle.wh_words.specs.declared.task.Task.TheVariants.{Run, Bench}
use Rattle.wh_shell.specs.Asked.{asked_by, RefusesWords, CarriesOut, wants_clock}
use Rattle.wh_shell.specs.Promised.{RunsWithin}
use Rattle.wh_shell.specs.Run.{IsStart}
use Rattle.wh_shell.specs.Timing.{Timing}
use Rattle.wh_shell.specs.World.{World}
use Rattle.wh_shell.specs.declared.status.Status.{Status}
use Rattle.wh_shell.specs.declared.status.Status.TheVariants.{Read}

abbrev pub with_one_worker : Task → Task
with_one_worker (Run workers system) = Run 1 system
with_one_worker (Bench workers rows seed) = Bench 1 rows seed

abbrev pub AskAlike : Option Task → Option Task → Type 0
AskAlike one other = option_map with_one_worker one ≡ option_map with_one_worker other

-- ---- what is promised

pub record SamePromises {D S K : Type 0} (d : disks.Ghosts D) (s : sources.Ghosts S) (k : sinks.Ghosts K)
    (readings : Option (List ℕ)) (one other : Option Task) : Type 0 where
  pub refuses : (status : Status) → RefusesWords one status → RefusesWords other status
  pub carries : (task other_task : Task) (old new : World D S K) (status : Status) → one ≡ Some task →
      other ≡ Some other_task → CarriesOut d s k readings task old new status →
      CarriesOut d s k readings other_task old new status
  pub clock : wants_clock one ≡ wants_clock other

abbrev pub PromisesAlike : {D S K : Type 0} → disks.Ghosts D → sources.Ghosts S → sinks.Ghosts K → Type 0
PromisesAlike d s k = (readings : Option (List ℕ)) (one other : List (String Global)) →
    AskAlike (asked_by one) (asked_by other) → SamePromises d s k readings (asked_by one) (asked_by other)

-- ---- what is written

-- the file, the script and what was written before
pub record StartAlike {D S K : Type 0} (d : disks.Ghosts D) (s : sources.Ghosts S) (k : sinks.Ghosts K)
    (timing : Timing) (one other : World D S K) : Type 0 where
  pub file : List ℕ
  pub input : List ℕ
  pub before : List ℕ
  pub start : State
  pub events : List Event
  pub first : IsStart timing (d.bytes one.disk) (s.left one.script) (k.held one.out) file input before start events
  pub second : IsStart timing (d.bytes other.disk) (s.left other.script) (k.held other.out) file input before start
      events

abbrev pub StandsFor : Option (List ℕ) → State → Type 0
StandsFor bytes state = (file : List ℕ) × (bytes ≡ Some file) × Stands file state

-- so many refusals, the same bytes, and files that stand for the same
pub record LeaveAlike {D S K : Type 0} (d : disks.Ghosts D) (k : sinks.Ghosts K) (one other : World D S K)
    (n m : ℕ) : Type 0 where
  pub refused : n ≡ m
  pub written : k.held one.out ≡ k.held other.out
  pub state : State
  pub first : StandsFor (d.bytes one.disk) state
  pub second : StandsFor (d.bytes other.disk) state

abbrev pub WritesAlike : {D S K : Type 0} → disks.Ghosts D → sources.Ghosts S → sinks.Ghosts K → Type 0
WritesAlike {D} {S} {K} d s k = (limit : ℕ) (timing : Timing) (one one_new other other_new : World D S K) (n m : ℕ) →
    StartAlike d s k timing one other → RunsWithin d s k limit timing one one_new (Read n) →
    RunsWithin d s k limit timing other other_new (Read m) → LeaveAlike d k one_new other_new n m
