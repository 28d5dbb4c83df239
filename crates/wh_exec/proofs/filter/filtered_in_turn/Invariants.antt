use Rattle.std.specs.Vec.Iter.{into_iter_items, into_iter_len}
use Rattle.wh_meaning.specs.Query.{kept_by}
use Rattle.wh_scalar.specs.View.{scalar_of}
use Rattle.wh_exec.proofs.Added.{AddedSoFar}
use Rattle.wh_exec.proofs.filter.filtered_in_turn.Given as goal

abbrev pub invariant-loop-row : goal.invariant-loop-row
invariant-loop-row l =
    AddedSoFar (kept_by (scalar_of l.condition)) l.fn.rows.items l.yielded (into_iter_items l.row-iterator)
    (into_iter_len l.row-iterator) l.kept.items
