use Rattle.std.proofs.Common.{◌≡◌, ◌++◌, drop}
use Rattle.wh_table.specs.Rows.{partitions_at}
use Rattle.wh_change.proofs.appending.see.Given as goal

abbrev pub invariant-loop-partition : goal.invariant-loop-partition
invariant-loop-partition l =
    partitions_at l.seen.partitions.items ++ partitions_at (drop l.partition-index l.came)
    ≡ partitions_at l.initial.seen.partitions.items ++ partitions_at l.came
