use Rattle.std.proofs.Common.{take}
use Rattle.wh_filed.specs.Filed.{partitions_at}
use Rattle.wh_change.specs.Seen.{IsLeast}
use Rattle.wh_change.proofs.meeting.lowest_in.Given as goal

abbrev pub invariant-loop-one : goal.invariant-loop-one
invariant-loop-one l = IsLeast l.lowest (partitions_at (take l.one-index l.came))
