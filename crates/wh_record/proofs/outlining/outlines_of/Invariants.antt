use Rattle.std.proofs.Common.{◌≡◌, take}
use Rattle.wh_record.proofs.outlining.outlines_of.Given as goal

abbrev pub invariant-loop-partition : goal.invariant-loop-partition
invariant-loop-partition l = l.outlines.items ≡ take l.partition-index l.partitions
