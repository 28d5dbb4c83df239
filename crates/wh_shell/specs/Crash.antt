-- What a crash leaves while a script is carried out.
--     Survives              a run of events, of whose replies so many bytes were written
--     EndsSafely            from a point of a run on, where its events and its file are told
--     LeavesCommitted       a run, at any moment
--     LeavesAllAnswered     a run, behind it
use Rattle.std.specs.Prelude.{◌≡◌, ℕ, List, ◌++◌, length, Option, Some}
use Rattle.wh_state.specs.State.{State}
use Rattle.wh_machine.specs.Outcome.{Machine, opened}
use Rattle.wh_machine.specs.Step.{Event}
use Rattle.wh_machine.specs.Stop.{whole_replies, most_events, StandsWithin}
use Rattle.wh_world.specs.Crash.{Only}
use Rattle.wh_world.specs.declared.disk.Disk as disks
use Rattle.wh_world.specs.declared.source.Source as sources
use Rattle.wh_world.specs.declared.sink.Sink as sinks
use Rattle.wh_journal.specs.Crash.{LeavesOnly}
use Rattle.wh_shell.specs.Point.{Point, IsToldAt}
use Rattle.wh_shell.specs.Run.{IsStart}
use Rattle.wh_shell.specs.Timing.{Timing}
use Rattle.wh_shell.specs.World.{World}
use Rattle.wh_shell.specs.Writing.{Writes}

-- Each file that a crash since old may have left stands for what was committed after some number of events, at most one
-- more than were answered in full. What a crash now leaves has no fewer than were.
pub record Survives {D : Type 0} (d : disks.Ghosts D) (old new : D) (start : Machine) (es : List Event)
    (written : ℕ) : Type 0 where
  pub any_moment : LeavesOnly d.moment d.left_since old new (StandsWithin start es 0 (most_events start es written))
  pub at_exit : (image : List ℕ) → d.may_leave new image →
      StandsWithin start es (whole_replies start es written) (most_events start es written) image

-- what was written, and what a crash leaves with it
pub record SurvivesWith {D : Type 0} (d : disks.Ghosts D) (old new : D) (start : Machine) (es : List Event)
    (held held_new : Option (List ℕ)) : Type 0 where
  pub piece : List ℕ
  pub written : Writes piece held held_new
  pub survives : Survives d old new start es (length piece)

-- of told events, over a told file
pub record EndsSafely {D S K : Type 0} (d : disks.Ghosts D) (k : sinks.Ghosts K) (old : Point D S K)
    (new : World D S K) : Type 0 where
  pub each : IsToldAt d old → (es : List Event) → old.left ≡ Some es →
      SurvivesWith d old.world.disk new.disk old.reach.machine es (k.held old.world.out) (k.held new.out)

-- ---- of a run whose file is all on the disk at first

-- what was committed after some of the events, at most one more than were answered in full
abbrev pub LeavesCommitted : {D S K : Type 0} → disks.Ghosts D → sources.Ghosts S → sinks.Ghosts K → Timing →
    World D S K → World D S K → Type 0
LeavesCommitted d s k timing old new = (file input before written : List ℕ) (start : State) (es : List Event) →
    IsStart timing (d.bytes old.disk) (s.left old.script) (k.held old.out) file input before start es →
    Only file (d.may_leave old.disk) → k.held new.out ≡ Some (before ++ written) →
    LeavesOnly d.moment d.left_since old.disk new.disk (StandsWithin (opened start) es
    0 (most_events (opened start) es (length written)))

-- and at least after all that were
abbrev pub LeavesAllAnswered : {D S K : Type 0} → disks.Ghosts D → sources.Ghosts S → sinks.Ghosts K → Timing →
    World D S K → World D S K → Type 0
LeavesAllAnswered d s k timing old new = (file input before written : List ℕ) (start : State) (es : List Event) →
    IsStart timing (d.bytes old.disk) (s.left old.script) (k.held old.out) file input before start es →
    Only file (d.may_leave old.disk) → k.held new.out ≡ Some (before ++ written) →
    (image : List ℕ) → d.may_leave new.disk image → StandsWithin (opened start) es
    (whole_replies (opened start) es (length written)) (most_events (opened start) es (length written)) image
