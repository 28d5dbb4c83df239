use Rattle.std.proofs.Common.{take, Contains}
use Rattle.std.specs.List.{AllByRecursion}
use Rattle.wh_filed.specs.Filed.{filed_at, partitions_at}
use Rattle.wh_table.specs.Table.{filed_of}
use Rattle.wh_refresh.specs.Going.{AreGoing}
use Rattle.wh_refresh.proofs.going.going.Given as goal

abbrev pub invariant-loop-filed : goal.invariant-loop-filed
invariant-loop-filed l = record {
  going : AreGoing l.change.minus (partitions_at (take l.filed-index l.filed-items)) (partitions_at l.going.items);
  among : AllByRecursion (Contains (filed_of l.table)) (filed_at l.going.items);
}
