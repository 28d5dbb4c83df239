use Rattle.std.proofs.Common.{length}
use Rattle.wh_aggregate.proofs.tallies.+join.Given as goal

abbrev pub decreases-join : goal.decreases-join
decreases-join l = length l.tallies.now
