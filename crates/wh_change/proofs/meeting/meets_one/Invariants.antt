use Rattle.std.proofs.Common.{take}
use Rattle.wh_filed.specs.Filed.{partitions_at}
use Rattle.wh_change.specs.Seen.{HasNoneOf}
use Rattle.wh_change.proofs.meeting.meets_one.Given as goal

abbrev pub invariant-loop-other : goal.invariant-loop-other
invariant-loop-other l = HasNoneOf (partitions_at (take l.other-index l.came)) l.one.partition
