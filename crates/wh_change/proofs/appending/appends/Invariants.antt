use Rattle.std.proofs.Common.{◌+◌, List}
use Rattle.wh_state.specs.Stored.{StoredVersion}
use Rattle.wh_table.specs.Rows.{partitions_at}
use Rattle.wh_change.specs.Appended.{arrived_of, came_in, IsAppended}
use Rattle.wh_change.specs.RowChange.{row_changes_of}
use Rattle.wh_change.proofs.Walking.{Walked}
use Rattle.wh_change.proofs.appending.appends.Given as goal

abbrev pub invariant-loop-arrived : goal.invariant-loop-arrived
invariant-loop-arrived l =
    (versions : List StoredVersion) → (is : IsAppended l.from l.appended versions)
    → Walked l.from l.to versions (came_in (arrived_of l.appended.later.items)) (is.count + l.arrived-index)
    (row_changes_of l.records.items) (partitions_at l.seen.partitions.items)
