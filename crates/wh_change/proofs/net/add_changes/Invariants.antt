use Rattle.std.proofs.Common.{◌≡◌, ◌++◌, drop}
use Rattle.wh_change.specs.RowChange.{row_changes_of}
use Rattle.wh_change.specs.Rows.{entries_at, changes_by}
use Rattle.wh_change.proofs.net.add_changes.Given as goal

abbrev pub invariant-loop-row : goal.invariant-loop-row
invariant-loop-row l =
    row_changes_of l.records.items ++ changes_by (entries_at l.new) (entries_at (drop l.row-index l.old))
    ≡ row_changes_of l.initial.records.items ++ changes_by (entries_at l.new) (entries_at l.old)
