use Rattle.std.proofs.Common.{◌≡◌, ◌++◌, true, length}
use Rattle.std.specs.FinMap.{is_sorted}
use Rattle.std.specs.Ordering.{nat_cmp}
use Rattle.std.specs.Vec.Iter.{into_iter_items, into_iter_len}
use Rattle.wh_version.specs.RowEdits.{entries_in, puts}
use Rattle.wh_version.proofs.merging.merged.Given as goal

abbrev pub invariant-loop-edit : goal.invariant-loop-edit
invariant-loop-edit l =
    (entries_in l.merged.items ++ puts (entries_in l.earlier.items) (entries_in (into_iter_items l.edit-iterator))
    ≡ puts (entries_in l.initial.earlier.items) (entries_in (into_iter_items l.initial.edit-iterator)))
    × (is_sorted nat_cmp (entries_in (into_iter_items l.edit-iterator)) ≡ true)
    × (into_iter_len l.edit-iterator ≡ length (into_iter_items l.edit-iterator))
