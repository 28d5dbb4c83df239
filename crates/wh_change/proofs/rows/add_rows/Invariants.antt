use Rattle.std.proofs.Common.{◌≡◌, ◌++◌, map, take}
use Rattle.wh_part.specs.View.{numbered_of}
use Rattle.wh_change.specs.Rows.{entries_at}
use Rattle.wh_change.proofs.rows.add_rows.Given as goal

abbrev pub invariant-loop-row : goal.invariant-loop-row
invariant-loop-row l =
    entries_at l.rows.items ≡ entries_at l.initial.rows.items ++ map numbered_of (take l.row-index l.row-items)
