use Rattle.std.proofs.Common.{◌≡◌, ◌++◌, length}
use Rattle.wh_version.specs.RowEdits.{entries_in, below, not_below}
use Rattle.wh_version.proofs.merging.move_below.Given as goal

abbrev pub invariant-loop-edit : goal.invariant-loop-edit
invariant-loop-edit l =
    (entries_in l.merged.items ++ below l.number (entries_in l.earlier.items)
    ≡ entries_in l.initial.merged.items ++ below l.number (entries_in l.initial.earlier.items))
    × (not_below l.number (entries_in l.earlier.items) ≡ not_below l.number (entries_in l.initial.earlier.items))

abbrev pub decreases-loop-edit : goal.decreases-loop-edit
decreases-loop-edit l = length l.earlier.items
