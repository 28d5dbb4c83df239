use Rattle.std.proofs.Common.{◌≡◌, ◌*◌, length, take, drop}
use Rattle.std.specs.List.{flat_map}
use Rattle.wh_frame.specs.Partition.{numbered, cut_into}
use Rattle.wh_part.proofs.cutting.cut.Given as goal

abbrev pub invariant-loop-done : goal.invariant-loop-done
invariant-loop-done l = record {
  rows : flat_map (λ p. p.rows) l.parts.items ≡ numbered l.first (take (l.done * 1000) l.fn.rows.items);
  left : l.rest.items ≡ drop (l.done * 1000) l.fn.rows.items;
  count : length l.parts.items ≡ l.done;
  parts : l.parts.items ≡ cut_into l.number l.done (numbered l.first l.fn.rows.items);
}
