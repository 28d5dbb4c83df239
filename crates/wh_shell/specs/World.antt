-- The devices of a run.
--     World, world_of     a disk, a script and an output
--     IsLater             no count of faults fell
use Rattle.std.specs.Prelude.{◌≤◌}
use Rattle.wh_world.specs.declared.disk.Disk as disks
use Rattle.wh_world.specs.declared.source.Source as sources
use Rattle.wh_world.specs.declared.sink.Sink as sinks

pub record World (D S K : Type 0) : Type 0 where
  pub disk : D
  pub script : S
  pub out : K

abbrev pub world_of : {D S K : Type 0} → D → S → K → World D S K
world_of disk script out = record { disk = disk; script = script; out = out }

pub record IsLater {D S K : Type 0} (d : disks.Ghosts D) (s : sources.Ghosts S) (k : sinks.Ghosts K)
    (old new : World D S K) : Type 0 where
  pub disk : d.faults old.disk ≤ d.faults new.disk
  pub script : s.faults old.script ≤ s.faults new.script
  pub out : k.faults old.out ≤ k.faults new.out
