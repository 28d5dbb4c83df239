use Rattle.std.proofs.Common.{◌≡◌, max, take, IsTrue}
use Rattle.std.specs.List.{list_all}
use Rattle.wh_table.specs.Apart.{highest_number, rows_rise}
use Rattle.wh_table.proofs.numbers.highest_of.Given as goal

abbrev pub invariant-loop-partition : goal.invariant-loop-partition
invariant-loop-partition l = record {
  highest : l.so_far ≡ max l.highest (highest_number (take l.partition-index l.partitions));
  rising : IsTrue (list_all rows_rise (take l.partition-index l.partitions));
}
