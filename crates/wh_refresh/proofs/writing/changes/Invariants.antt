use Rattle.std.proofs.Common.{List, map}
use Rattle.std.specs.Vec.Iter.{into_iter_items}
use Rattle.std.specs.List.{AllByRecursion, flat_map}
use Rattle.wh_state.specs.Spelling.{IsUnderstood}
use Rattle.wh_machine.specs.Refresh.{Brought}
use Rattle.wh_record.specs.View.{change_of}
use Rattle.wh_refresh.specs.Objects.{stored_in}
use Rattle.wh_refresh.specs.Brought.{AreBrought, SaidSoFar}
use Rattle.wh_refresh.specs.Writing.{one_written}
use Rattle.wh_refresh.proofs.writing.changes.Given as goal

abbrev pub invariant-loop-one : goal.invariant-loop-one
invariant-loop-one l = record {
  said : (bs : List Brought) → AreBrought (stored_in l.objects) l.fn.all.items bs
      → SaidSoFar (stored_in l.objects) (into_iter_items l.one-iterator) (map change_of l.changes.items)
      (flat_map (one_written (stored_in l.objects) l.moment)) bs;
  understood : AllByRecursion IsUnderstood (map change_of l.changes.items);
}
