use Rattle.std.proofs.Common.{◌≡◌}
use Rattle.wh_algebra.specs.Tuple.{rows_in}
use Rattle.wh_delta.proofs.at_hand.made.Given as goal

abbrev pub invariant-loop-tuple : goal.invariant-loop-tuple
invariant-loop-tuple l = l.rows.items ≡ rows_in l.yielded
