use Rattle.std.proofs.Common.{◌≡◌, ◌++◌, drop}
use Rattle.std.specs.List.{AllByRecursion}
use Rattle.wh_filed.specs.Filed.{loaded_of}
use Rattle.wh_state.specs.Orderly.{HasRisingRows}
use Rattle.wh_table.specs.Rows.{partitions_at}
use Rattle.wh_table.proofs.gathering.at_hand.Given as goal

abbrev pub invariant-loop-partition : goal.invariant-loop-partition
invariant-loop-partition l = record {
  partitions : partitions_at l.found.items ++ loaded_of (drop l.partition-index l.stored) ≡ loaded_of l.stored;
  rising : AllByRecursion HasRisingRows (partitions_at l.found.items);
}
