use Rattle.std.proofs.Common.{◌≡◌, map, take, drop}
use Rattle.wh_frame.specs.Partition.{numbered}
use Rattle.wh_part.specs.View.{numbered_of}
use Rattle.wh_part.proofs.cutting.next_rows.Given as goal

abbrev pub invariant-loop-done : goal.invariant-loop-done
invariant-loop-done l = record {
  numbered : map numbered_of l.rows.items ≡ numbered l.first (take l.done l.fn.rest.items);
  left : l.rest.items ≡ drop l.done l.fn.rest.items;
}
