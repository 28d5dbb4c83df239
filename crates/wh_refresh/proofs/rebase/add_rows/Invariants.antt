use Rattle.std.proofs.Common.{◌≡◌, ◌++◌, ◌≤◌, replicate}
use Rattle.wh_algebra.specs.Tuple.{rows_in}
use Rattle.wh_refresh.proofs.rebase.add_rows.Given as goal

abbrev pub invariant-loop : goal.invariant-loop
invariant-loop l = (l.counter ≤ l.count)
    × (rows_in l.rows.items ≡ rows_in l.initial.rows.items ++ replicate l.counter l.row)
