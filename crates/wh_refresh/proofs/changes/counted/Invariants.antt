use Rattle.std.proofs.Common.{◌≡◌, ◌++◌, drop}
use Rattle.wh_algebra.specs.Tuple.{rows_in}
use Rattle.wh_table.specs.Rows.{rows_only, all_rows, partitions_at}
use Rattle.wh_refresh.proofs.changes.counted.Given as goal

abbrev pub invariant-loop-partition : goal.invariant-loop-partition
invariant-loop-partition l =
    rows_in l.tuples.items ++ rows_only (all_rows (partitions_at (drop l.partition-index l.partitions)))
    ≡ rows_only (all_rows (partitions_at l.partitions))
