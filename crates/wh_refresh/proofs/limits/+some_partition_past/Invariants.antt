use Rattle.std.proofs.Common.{length}
use Rattle.wh_refresh.proofs.limits.+some_partition_past.Given as goal

abbrev pub decreases-some_partition_past : goal.decreases-some_partition_past
decreases-some_partition_past l = length l.all.now
