-- What contracts say of a run.
--     IsStart                    what is told before a run
--     IsRunOf                    what the run wrote and left, by its status
--     Through, EndsBy            where the script was read to its end; a fault that ended it before
--     IsForeign, RefusesFile     a file that stands for no state, and what it may be answered
--     RefusesForeign             so of the file of a disk
--     IsRejected, Rejects        that it is no warehouse
--     WasTooLong                 so many bytes were taken, and they are too many
--     StopsTooLong               a run ends so where more than 2^30 were taken
--     StopsWhereTooLong          and nowhere else
--     Runs                       where file, script and output are told, what the run wrote and left
use Rattle.std.specs.Prelude.{◌≡◌, ◌⊎◌, ℕ, ◌+◌, ◌-◌, ◌<◌, ◌^◌, List, [], ◌++◌, length}
use Rattle.std.specs.Prelude.{Option, Some}
use Rattle.wh_state.specs.State.{State}
use Rattle.wh_state.specs.File.{Stands}
use Rattle.wh_state.specs.Fault.{IsFirstFault}
use Rattle.wh_state.specs.Sound.{Sound}
use Rattle.wh_machine.specs.Outcome.{Machine, opened, rest_of}
use Rattle.wh_machine.specs.Step.{Event, after, text, refusals}
use Rattle.wh_world.specs.Crash.{Only}
use Rattle.wh_world.specs.declared.disk.Disk as disks
use Rattle.wh_world.specs.declared.source.Source as sources
use Rattle.wh_world.specs.declared.sink.Sink as sinks
use Rattle.wh_shell.specs.Timing.{Timing, IsScriptBy}
use Rattle.wh_shell.specs.World.{World}
use Rattle.wh_shell.specs.declared.fault.Fault.{Fault}
use Rattle.wh_shell.specs.declared.fault.Fault.TheVariants.{OutOfMemory, Disk, NotWarehouse, ScriptTooLong}
use Rattle.wh_shell.specs.declared.status.Status.{Status}
use Rattle.wh_shell.specs.declared.status.Status.TheVariants.{Usage, Read, Stopped}

-- the file, which stands for a sound state, the script, whose events by the timing are those, and what was written
-- before
pub record IsStart (timing : Timing) (bytes left held : Option (List ℕ)) (file input before : List ℕ)
    (start : State) (es : List Event) : Type 0 where
  pub told_file : bytes ≡ Some file
  pub told_script : left ≡ Some input
  pub told_output : held ≡ Some before
  pub stands : Stands file start
  -- so is that of every file that a run leaves
  pub sound : Sound start
  pub events : IsScriptBy timing input es

-- the script was read to its end: its whole text was written, and the file stands for what is committed after all
-- events
pub record IsWhole (start : Machine) (es : List Event) (held : List ℕ) (count : ℕ)
    (held_new bytes_new left_new : Option (List ℕ)) : Type 0 where
  pub written : held_new ≡ Some (held ++ text start es)
  pub refused : count ≡ refusals start es
  pub read : left_new ≡ Some []
  pub file : List ℕ
  pub told : bytes_new ≡ Some file
  pub stands : Stands file (rest_of (after start es))

-- a front of the text was written
pub record IsFront (start : Machine) (es : List Event) (held : List ℕ) (held_new : Option (List ℕ)) : Type 0 where
  pub front : List ℕ
  pub rest : List ℕ
  pub parts : front ++ rest ≡ text start es
  pub written : held_new ≡ Some (held ++ front)

abbrev pub IsRunOf : Machine → List Event → List ℕ → Status → Option (List ℕ) → Option (List ℕ) → Option (List ℕ) →
    Type 0
IsRunOf start es held Usage held_new bytes_new left_new = held_new ≡ Some held
IsRunOf start es held (Read count) held_new bytes_new left_new = IsWhole start es held count held_new bytes_new left_new
IsRunOf start es held (Stopped why) held_new bytes_new left_new = IsFront start es held held_new

-- what holds where the script was read to its end
abbrev pub Through : Status → Type 0 → Type 0
Through Usage P = Unit {0}
Through (Read count) P = P
Through (Stopped why) P = Unit {0}

-- nothing ended it before, or a fault of which that holds
abbrev pub EndsBy : (Fault → Type 0) → Status → Type 0
EndsBy P Usage = Unit {0}
EndsBy P (Read count) = Unit {0}
EndsBy P (Stopped why) = P why

-- the file has more than 8 bytes and stands for no state
pub record IsForeign (file : List ℕ) : Type 0 where
  pub long : 8 < length file
  pub none : (state : State) → Stands file state → ⊥

-- that it is no warehouse, or a fault that came first
abbrev pub RefusesFile : Status → Type 0
RefusesFile status =
    ((at : ℕ) × (status ≡ Stopped (NotWarehouse at))) ⊎ ((status ≡ Stopped OutOfMemory) ⊎ (status ≡ Stopped Disk))

abbrev pub RefusesForeign : {D : Type 0} → disks.Ghosts D → D → Status → Type 0
RefusesForeign d disk status = (file : List ℕ) → d.bytes disk ≡ Some file → IsForeign file → RefusesFile status

-- the file's first fault is there, and it stays as it was, whatever a crash then does
pub record IsRejected (at : ℕ) (file : List ℕ) (bytes_new : Option (List ℕ))
    (may_leave_new : List ℕ → Type 0) : Type 0 where
  pub foreign : IsForeign file
  pub first_fault : IsFirstFault file at
  pub same : bytes_new ≡ Some file
  pub only : Only file may_leave_new

-- nothing was read, and nothing written
pub record Rejects {D S K : Type 0} (d : disks.Ghosts D) (at : ℕ) (old new : World D S K) : Type 0 where
  pub script : new.script ≡ old.script
  pub out : new.out ≡ old.out
  pub file : (file : List ℕ) → d.bytes old.disk ≡ Some file →
      IsRejected at file (d.bytes new.disk) (d.may_leave new.disk)

-- more than 2^30 bytes were taken, and that many
pub record WasTooLong (taken : ℕ) (left_old left_new : Option (List ℕ)) : Type 0 where
  pub long : 2 ^ 30 < taken
  pub counted : (input : List ℕ) → left_old ≡ Some input →
      (rest : List ℕ) × (left_new ≡ Some rest) × (length input ≡ taken + length rest)

-- where more were taken, it ends so
abbrev pub StopsTooLong : {S : Type 0} → sources.Ghosts S → S → S → Status → Type 0
StopsTooLong s old new status = (input rest : List ℕ) → s.left old ≡ Some input → s.left new ≡ Some rest →
    2 ^ 30 + length rest < length input → status ≡ Stopped (ScriptTooLong (length input - length rest))

-- and nowhere else
pub record StopsWhereTooLong {S : Type 0} (s : sources.Ghosts S) (old new : S) (status : Status) : Type 0 where
  pub long : StopsTooLong s old new status
  pub too_long : (taken : ℕ) → status ≡ Stopped (ScriptTooLong taken) → WasTooLong taken (s.left old) (s.left new)

-- ---- what was written and left

abbrev pub Runs : {D S K : Type 0} → disks.Ghosts D → sources.Ghosts S → sinks.Ghosts K → Timing → World D S K →
    World D S K → Status → Type 0
Runs d s k timing old new status = (file input held : List ℕ) (start : State) (es : List Event) →
    IsStart timing (d.bytes old.disk) (s.left old.script) (k.held old.out) file input held start es →
    IsRunOf (opened start) es held status (k.held new.out) (d.bytes new.disk) (s.left new.script)
