-- What a change reads of its target.
--     LeavesOut    some partitions without those in which the change leaves each row as it is
--     Spares       some rows without those that the change leaves as they are
--     ShowsTo      the table of the machine, but for such rows, whose rows are held
use Rattle.std.specs.Prelude.{◌≡◌, ◌⊎◌, ℕ, List, [], Option, Some, None}
use Rattle.std.specs.List.{AllByRecursion}
use Rattle.std.specs.FinMap.{get}
use Rattle.wh_value.specs.Value.{Row}
use Rattle.wh_naming.specs.Changes.{Modification}
use Rattle.wh_frame.specs.Partition.{Partition}
use Rattle.wh_state.specs.State.{Rows, Table, last_rows}
use Rattle.wh_version.specs.Turnover.{IsMixed}
use Rattle.wh_dml.specs.Leaving.{Leaves, LeavesEach}
use Rattle.wh_table.specs.Shown.{Holds}
use Rattle.wh_txn.specs.declared.seeing.TableSeen.{TableSeen}
use Rattle.wh_txn.specs.Seen.{partitions_of}

pub record LeavesOut (change : Modification) (whole rest : List Partition) : Type 0 where
  pub left : List Partition
  pub mixed : IsMixed rest left whole
  pub each : AllByRecursion (LeavesEach change) left

abbrev pub IsSpared : Modification → Option Row → Option Row → Type 0
IsSpared change old new = (new ≡ old) ⊎ ((new ≡ None) × ((row : Row) → old ≡ Some row → Leaves change row))

abbrev pub Spares : Modification → Rows → Rows → Type 0
Spares change whole rest = (number : ℕ) → IsSpared change (get whole number) (get rest number)

pub record HoldsSome (change : Modification) (partitions : List Partition) (whole : Rows) : Type 0 where
  pub rest : Rows
  pub holds : Holds partitions rest
  pub spares : Spares change whole rest

-- or it has nothing where there is no table
abbrev pub ShowsTo : Modification → TableSeen → Option Table → Type 0
ShowsTo change seen None = partitions_of seen ≡ []
ShowsTo change seen (Some t) = HoldsSome change (partitions_of seen) (last_rows t)
