use Rattle.std.proofs.Common.{◌≡◌, ◌++◌, drop}
use Rattle.std.specs.List.{AllByRecursion}
use Rattle.wh_state.specs.Orderly.{HasRisingRows}
use Rattle.wh_table.specs.Rows.{partitions_at}
use Rattle.wh_table.proofs.gathering.add_all.Given as goal

abbrev pub invariant-loop-partition : goal.invariant-loop-partition
invariant-loop-partition l = record {
  added : partitions_at l.found.items ++ drop l.partition-index l.partitions
      ≡ partitions_at l.initial.found.items ++ l.partitions;
  rising : AllByRecursion HasRisingRows (partitions_at l.initial.found.items)
      → AllByRecursion HasRisingRows (partitions_at l.found.items);
}
