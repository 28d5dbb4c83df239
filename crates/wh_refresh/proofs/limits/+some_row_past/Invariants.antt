use Rattle.std.proofs.Common.{length}
use Rattle.wh_refresh.proofs.limits.+some_row_past.Given as goal

abbrev pub decreases-some_row_past : goal.decreases-some_row_past
decreases-some_row_past l = length l.all.now
