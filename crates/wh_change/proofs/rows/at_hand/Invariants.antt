use Rattle.std.proofs.Common.{◌≡◌, take}
use Rattle.wh_filed.specs.Filed.{loaded_of}
use Rattle.wh_table.specs.Rows.{partitions_at}
use Rattle.wh_change.proofs.rows.at_hand.Given as goal

abbrev pub invariant-loop-partition : goal.invariant-loop-partition
invariant-loop-partition l = partitions_at l.found.items ≡ loaded_of (take l.partition-index l.loaded)
