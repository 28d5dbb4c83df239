use Rattle.std.proofs.Common.{take}
use Rattle.wh_bound_change.specs.View.{change_of}
use Rattle.wh_filed.specs.Filed.{filed_at, partitions_at, AreAmong}
use Rattle.wh_txn.specs.Touched.{LeavesOut}
use Rattle.wh_txn.proofs.touching.touched.Given as goal

abbrev pub invariant-loop-one : goal.invariant-loop-one
invariant-loop-one l = record {
  touched : LeavesOut (change_of l.change) (partitions_at (take l.one-index l.filed)) (partitions_at l.found.items);
  among : AreAmong (filed_at l.found.items) (filed_at (take l.one-index l.filed));
}
