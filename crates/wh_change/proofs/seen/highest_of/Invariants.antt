use Rattle.std.proofs.Common.{take}
use Rattle.wh_table.specs.Rows.{partitions_at}
use Rattle.wh_change.specs.Seen.{IsBound}
use Rattle.wh_change.proofs.seen.highest_of.Given as goal

abbrev pub invariant-loop-partition : goal.invariant-loop-partition
invariant-loop-partition l = IsBound l.highest (partitions_at (take l.partition-index l.partitions))
