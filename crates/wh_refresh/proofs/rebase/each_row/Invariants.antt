use Rattle.std.proofs.Common.{◌≡◌, ◌++◌}
use Rattle.std.specs.FinMap.{entries}
use Rattle.wh_algebra.specs.Tuple.{rows_in}
use Rattle.wh_refresh.specs.Walk.{expanded}
use Rattle.wh_refresh.proofs.rebase.each_row.Given as goal

abbrev pub invariant-loop-row : goal.invariant-loop-row
invariant-loop-row l = rows_in l.rows.items ++ expanded l.row-iterator ≡ expanded (entries l.bag)
