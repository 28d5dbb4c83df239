-- How a run over an open warehouse ends.
--     left_file            the file that is left
--     served_ends          where the warehouse is closed behind what was served
--     ends_safely          what a crash leaves, whatever the status is
use Rattle.std.proofs.Common.{◌≡◌, ℕ, List, Option, Some, subst}
use Rattle.std.specs.Prelude.{Result, Ok, Err, IfOk, OnOk, IfErr}
use Rattle.wh_state.specs.File.{Stands}
use Rattle.wh_machine.specs.Outcome.{Machine, rest_of}
use Rattle.wh_machine.specs.Step.{Event}
use Rattle.wh_world.specs.declared.disk.Disk as disks
use Rattle.wh_world.specs.declared.source.Source as sources
use Rattle.wh_world.specs.declared.sink.Sink as sinks
use Rattle.wh_engine.specs.Warehouse.{machine_of}
use Rattle.wh_engine.specs.declared.warehouse.Warehouse.{Warehouse}
use Rattle.wh_engine.proofs.FileLemmas.{stands_for}
use Rattle.wh_shell.specs.Code.{status_of}
use Rattle.wh_shell.specs.Crash.{EndsSafely}
use Rattle.wh_shell.specs.Open.{IsTold, StaysOpen}
use Rattle.wh_shell.specs.Point.{Point, point_of}
use Rattle.wh_shell.specs.Serving.{Stops, Serves, EndsAs}
use Rattle.wh_shell.specs.World.{World, world_of}
use Rattle.wh_shell.specs.declared.fault.Fault.{Fault}
use Rattle.wh_shell.specs.declared.status.Status.{Status}
use Rattle.wh_shell.specs.declared.status.Status.TheVariants.{Usage, Read, Stopped}
use Rattle.wh_shell.proofs.Told.{told_file}

-- where the file was told, there is one, which stands for what is committed
left_file : {D : Type 0} {g : disks.Ghosts D} (old new : Warehouse D g) → IsTold old → StaysOpen old new →
    (file : List ℕ) × (g.bytes new.fetch.disk ≡ Some file) × Stands file (rest_of (machine_of new))
left_file {D} {g} old new told stays =
    let found = told_file (g.bytes new.fetch.disk) (stays.sound told).told in
    (found.0, found.1, stands_for found.0 new.journal new.catalog (stays.opens.filed.each found.0 found.1))

module _ {D S K : Type 0} (d : disks.Ghosts D) (s : sources.Ghosts S) (k : sinks.Ghosts K) where
  pub served_ends : (old new : Warehouse D d) (left : Option (List Event)) (script script_new : S)
      (out out_new : K) (served : Result ℕ Fault) →
      IfOk served (Serves d s k (point_of old left script out) (machine_of new)
      (world_of new.fetch.disk script_new out_new)) →
      OnOk served (StaysOpen old new) →
      IfErr served (Stops d s k (point_of old left script out) (world_of new.fetch.disk script_new out_new)) →
      EndsAs d s k (point_of old left script out) (world_of new.fetch.disk script_new out_new) (status_of served)
  served_ends old new left script script_new out out_new (Ok count) serves stays stops = record {
    each = serves.each;
    safe = serves.safe;
    durable = stays.opens.settled;
    stands = λ told es told_left.
        let file = left_file old new told stays in (
          file.0,
          file.1,
          subst (λ (m : Machine). Stands file.0 (rest_of m)) (serves.reached told es told_left) file.2,
        );
  }
  served_ends old new left script script_new out out_new (Err why) serves stays stops = stops

  pub ends_safely : (old : Point D S K) (new : World D S K) (status : Status) → EndsAs d s k old new status →
      EndsSafely d k old new
  ends_safely old new Usage ends = absurd ends
  ends_safely old new (Read count) ends = ends.safe
  ends_safely old new (Stopped why) ends = ends.safe
