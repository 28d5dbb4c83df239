use Rattle.std.proofs.Common.{◌≡◌, ◌++◌, map, length}
use Rattle.std.specs.Vec.Iter.{into_iter_items, into_iter_len}
use Rattle.wh_version.specs.RowEdits.{entries_in, change_of}
use Rattle.wh_version.proofs.edits.change.Given as goal

abbrev pub invariant-loop-number : goal.invariant-loop-number
invariant-loop-number l = (entries_in l.list.items ++ map change_of (into_iter_items l.number-iterator)
    ≡ entries_in l.initial.list.items ++ map change_of (into_iter_items l.initial.number-iterator))
    × (into_iter_len l.number-iterator ≡ length (into_iter_items l.number-iterator))
