-- What partitions say of rows.
--     Holds          they are apart, and have exactly these rows
--     HoldsRising    so, and the row numbers of each rise
--     TurnsOver      what went and came between two versions' rows, and that those of each are apart
use Rattle.std.specs.Prelude.{◌≡◌, List, []}
use Rattle.std.specs.List.{AllByRecursion}
use Rattle.std.specs.FinMap.{entries}
use Rattle.wh_frame.specs.Partition.{Partition}
use Rattle.wh_state.specs.State.{Rows}
use Rattle.wh_state.specs.Commit.{AllApart}
use Rattle.wh_state.specs.Orderly.{HasRisingRows}
use Rattle.wh_state.specs.Stored.{rows_of}
use Rattle.wh_table.specs.Changes.{AreChanges}

-- whatever order they stand in
pub record Holds (partitions : List Partition) (held : Rows) : Type 0 where
  pub apart : AllApart [] partitions
  pub rows : rows_of partitions ≡ held

pub record HoldsRising (partitions : List Partition) (held : Rows) : Type 0 where
  pub holds : Holds partitions held
  pub rising : AllByRecursion HasRisingRows partitions

pub record TurnsOver (went came : List Partition) (old new : Rows) : Type 0 where
  pub went_apart : AllApart [] went
  pub came_apart : AllApart [] came
  pub changes : AreChanges (entries (rows_of went)) (entries (rows_of came)) old new
