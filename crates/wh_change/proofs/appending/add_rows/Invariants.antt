use Rattle.std.proofs.Common.{◌≡◌, ◌++◌, drop, map}
use Rattle.wh_part.specs.View.{numbered_of}
use Rattle.wh_table.specs.Rows.{partitions_at}
use Rattle.wh_change.specs.RowChange.{row_changes_of}
use Rattle.wh_change.specs.Seen.{appeared}
use Rattle.wh_change.proofs.appending.add_rows.Given as goal

abbrev pub invariant-loop-row : goal.invariant-loop-row
invariant-loop-row l =
    let seen = partitions_at l.seen.partitions.items in
    row_changes_of l.records.items ++ appeared seen (map numbered_of (drop l.row-index l.rows))
    ≡ row_changes_of l.initial.records.items ++ appeared seen (map numbered_of l.rows)
