-- What a run promises over a file of at most so many bytes.
--     RunsWithin     all of it
use Rattle.std.specs.Prelude.{◌≢◌, ℕ}
use Rattle.wh_world.specs.declared.disk.Disk as disks
use Rattle.wh_world.specs.declared.source.Source as sources
use Rattle.wh_world.specs.declared.sink.Sink as sinks
use Rattle.wh_engine.specs.Warehouse.{IsSettled}
use Rattle.wh_shell.specs.Commits.{AddsCommits}
use Rattle.wh_shell.specs.Crash.{LeavesCommitted, LeavesAllAnswered}
use Rattle.wh_shell.specs.Fault.{HasCause}
use Rattle.wh_shell.specs.Full.{Fills}
use Rattle.wh_shell.specs.Run.{Runs, Through, EndsBy, RefusesForeign, StopsTooLong}
use Rattle.wh_shell.specs.Timing.{Timing}
use Rattle.wh_shell.specs.World.{World}
use Rattle.wh_shell.specs.declared.status.Status.{Status}
use Rattle.wh_shell.specs.declared.status.Status.TheVariants.{Usage}

pub record RunsWithin {D S K : Type 0} (d : disks.Ghosts D) (s : sources.Ghosts S) (k : sinks.Ghosts K) (limit : ℕ)
    (timing : Timing) (old new : World D S K) (status : Status) : Type 0 where
  pub started : status ≢ Usage
  -- Where all is told, the replies are the machine's, or at a stop a front of them; and where the script was read to
  -- its end, the file has the commits of its events behind its own.
  pub runs : Runs d s k timing old new status
  pub commits : AddsCommits d s timing old new status
  -- Over a file that is all on the disk: what a crash at any moment may have left, and what one leaves now.
  pub any_moment : LeavesCommitted d s k timing old new
  pub at_exit : LeavesAllAnswered d s k timing old new
  pub durable : Through status (IsSettled (d.bytes new.disk) (d.may_leave new.disk))
  -- Why it ends otherwise.
  pub causes : EndsBy (HasCause d s k limit old new) status
  pub foreign : RefusesForeign d old.disk status
  pub full : Fills d s k limit timing old new status
  pub long : StopsTooLong s old.script new.script status
