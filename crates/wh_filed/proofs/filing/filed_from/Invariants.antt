use Rattle.std.proofs.Common.{◌≡◌, ◌++◌, length}
use Rattle.std.specs.Vec.Iter.{into_iter_items, into_iter_len}
use Rattle.wh_filed.specs.Filing.{filed_from}
use Rattle.wh_filed.proofs.filing.filed_from.Given as goal

-- those so far, and those of the outlines that are left, are all of them
abbrev pub invariant-loop-outline : goal.invariant-loop-outline
invariant-loop-outline l = record {
  placed : l.filed.items ++ filed_from l.object l.next (into_iter_items l.outline-iterator)
      ≡ filed_from l.object l.at (into_iter_items l.initial.outline-iterator);
  count : into_iter_len l.outline-iterator ≡ length (into_iter_items l.outline-iterator);
}
