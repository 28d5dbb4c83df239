use Rattle.std.proofs.Common.{◌≡◌, take}
use Rattle.wh_algebra.specs.Tuple.{rows_in}
use Rattle.wh_delta.proofs.staying.lent.Given as goal

abbrev pub invariant-loop-row : goal.invariant-loop-row
invariant-loop-row l = rows_in l.tuples.items ≡ take l.row-index l.rows
