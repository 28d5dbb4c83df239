use Rattle.std.proofs.Common.{◌≡◌, ◌++◌, drop}
use Rattle.wh_table.specs.Rows.{all_rows, partitions_at}
use Rattle.wh_change.specs.RowChange.{row_changes_of}
use Rattle.wh_change.specs.Seen.{appeared}
use Rattle.wh_change.proofs.appending.add_unseen.Given as goal

abbrev pub invariant-loop-partition : goal.invariant-loop-partition
invariant-loop-partition l =
    let seen = partitions_at l.seen.partitions.items in
    row_changes_of l.records.items ++ appeared seen (all_rows (partitions_at (drop l.partition-index l.came)))
    ≡ row_changes_of l.initial.records.items ++ appeared seen (all_rows (partitions_at l.came))
