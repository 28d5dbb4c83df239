use Rattle.std.proofs.Common.{◌≡◌, ◌++◌, map, length}
use Rattle.std.specs.List.{AllByRecursion}
use Rattle.std.specs.Vec.Iter.{into_iter_items, into_iter_len}
use Rattle.wh_state.specs.Spelling.{IsChange}
use Rattle.wh_record.specs.View.{change_of, written_of}
use Rattle.wh_record.proofs.outlining.outlined_changes.Given as goal

-- those that are left may be written; those so far and they are all of them
abbrev pub invariant-loop-change : goal.invariant-loop-change
invariant-loop-change l = record {
  written : AllByRecursion IsChange (map written_of (into_iter_items l.change-iterator));
  same : map change_of l.made.items ++ map change_of (into_iter_items l.change-iterator)
      ≡ map change_of (into_iter_items l.initial.change-iterator);
  count : into_iter_len l.change-iterator ≡ length (into_iter_items l.change-iterator);
}
