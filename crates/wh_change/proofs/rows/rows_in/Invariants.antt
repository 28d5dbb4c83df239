use Rattle.std.proofs.Common.{◌≡◌, ◌++◌, drop}
use Rattle.wh_table.specs.Rows.{all_rows, partitions_at}
use Rattle.wh_change.specs.Rows.{entries_at}
use Rattle.wh_change.proofs.rows.rows_in.Given as goal

abbrev pub invariant-loop-partition : goal.invariant-loop-partition
invariant-loop-partition l =
    entries_at l.rows.items ++ all_rows (partitions_at (drop l.partition-index l.partitions))
    ≡ all_rows (partitions_at l.partitions)
