use Rattle.std.proofs.Common.{◌≡◌, ◌++◌, map}
use Rattle.std.specs.List.{filter}
use Rattle.wh_txn.specs.View.{entry_of}
use Rattle.wh_txn.specs.Recording.{touched_at}
use Rattle.wh_txn.proofs.lone.touched.Given as goal

abbrev pub invariant-loop-id : goal.invariant-loop-id
invariant-loop-id l =
    touched_at l.touched.items ++ filter (λ entry. entry.1.is_touched) (map entry_of l.id-iterator)
    ≡ filter (λ entry. entry.1.is_touched) (map entry_of l.fn.tables.entries)
