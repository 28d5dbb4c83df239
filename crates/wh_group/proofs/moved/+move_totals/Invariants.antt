use Rattle.std.proofs.Common.{length}
use Rattle.wh_group.proofs.moved.+move_totals.Given as goal

abbrev pub decreases-move_totals : goal.decreases-move_totals
decreases-move_totals l = length l.was.now
