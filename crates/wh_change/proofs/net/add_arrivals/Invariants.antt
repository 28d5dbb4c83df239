use Rattle.std.proofs.Common.{◌≡◌, ◌++◌, drop}
use Rattle.wh_change.specs.RowChange.{row_changes_of}
use Rattle.wh_change.specs.Rows.{entries_at, arrivals_by}
use Rattle.wh_change.proofs.net.add_arrivals.Given as goal

abbrev pub invariant-loop-row : goal.invariant-loop-row
invariant-loop-row l =
    row_changes_of l.records.items ++ arrivals_by (entries_at l.old) (entries_at (drop l.row-index l.new))
    ≡ row_changes_of l.initial.records.items ++ arrivals_by (entries_at l.old) (entries_at l.new)
