use Rattle.std.proofs.Common.{◌≡◌, ◌++◌, take}
use Rattle.std.specs.List.{flat_map, AllByRecursion}
use Rattle.wh_frame.specs.Spelling.{partition_bytes, IsPartition}
use Rattle.wh_record.proofs.encoding.write_each_partition.Given as goal

-- the partitions so far are written, and may be
abbrev pub invariant-loop-partition : goal.invariant-loop-partition
invariant-loop-partition l = record {
  written : l.out ≡ l.fn.out ++ flat_map partition_bytes (take l.partition-index l.added);
  spelled : AllByRecursion (IsPartition l.width) (take l.partition-index l.added);
}
