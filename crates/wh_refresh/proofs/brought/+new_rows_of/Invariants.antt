use Rattle.std.proofs.Common.{length}
use Rattle.wh_refresh.proofs.brought.+new_rows_of.Given as goal

abbrev pub decreases-new_rows_of : goal.decreases-new_rows_of
decreases-new_rows_of l = length l.all.now
