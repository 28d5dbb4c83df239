use Rattle.std.proofs.Common.{length}
use Rattle.wh_value.proofs.row.+cmp_from.Given as goal

abbrev pub decreases-cmp_from : goal.decreases-cmp_from
decreases-cmp_from l = length l.a.now
