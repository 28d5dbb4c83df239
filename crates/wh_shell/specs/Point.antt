-- Where a run stands between two events.
--     Point, point_of     its warehouse, the events that are unread, where the script is told, and its devices
--     starting            where nothing is read yet
--     awaiting            what a reader has left is unread
--     IsToldAt            its file is told, and its machine is sound
use Rattle.std.specs.Prelude.{ℕ, Bool, List, Option, option_map}
use Rattle.wh_machine.specs.Step.{Event}
use Rattle.wh_world.specs.declared.disk.Disk.{Ghosts}
use Rattle.wh_world.specs.declared.source.Source as sources
use Rattle.wh_world.specs.declared.clock.Clock as clocks
use Rattle.wh_journal.specs.Journal.{limit_of}
use Rattle.wh_engine.specs.declared.warehouse.Warehouse.{Warehouse}
use Rattle.wh_shell.specs.Events.{events}
use Rattle.wh_shell.specs.Open.{IsToldWith}
use Rattle.wh_shell.specs.Reading.{awaited}
use Rattle.wh_shell.specs.Room.{Reach, reach_of}
use Rattle.wh_shell.specs.Timing.{timing_of, timed}
use Rattle.wh_shell.specs.World.{World, world_of}
use Rattle.wh_shell.specs.declared.reader.Reader.{Reader}

-- the most bytes of the file, what there is of it, and the machine; what is unread
pub record Point (D S K : Type 0) : Type 0 where
  pub limit : ℕ
  pub reach : Reach
  pub left : Option (List Event)
  pub world : World D S K

abbrev pub point_of : {D S K : Type 0} {disk : Ghosts D} → Warehouse D disk → Option (List Event) → S → K → Point D S K
point_of w left script out =
    record { limit = limit_of w.journal; reach = reach_of w; left = left; world = world_of w.fetch.disk script out }

module _ {D S K C : Type 0} {disk : Ghosts D} (s : sources.Ghosts S) (c : clocks.Ghosts C) (system : Bool) where
  abbrev pub starting : Warehouse D disk → S → K → C → Point D S K
  starting w script out clock =
      point_of w (timed (timing_of system (c.readings clock)) (option_map events (s.left script))) script out

  abbrev pub awaiting : Warehouse D disk → Reader → S → K → C → Point D S K
  awaiting w reader script out clock = point_of w (awaited system (c.readings clock) reader (s.left script)) script out

abbrev pub IsToldAt : {D S K : Type 0} → Ghosts D → Point D S K → Type 0
IsToldAt d p = IsToldWith (d.bytes p.world.disk) p.reach.machine
