use Rattle.std.proofs.Common.{◌≡◌, map, length}
use Rattle.wh_value.specs.View.{value_of}
use Rattle.wh_part.specs.Extent.{extent_of, row_absorbed}
use Rattle.wh_part.proofs.AbsorbLaws.{row_so_far}
use Rattle.wh_part.proofs.extents.absorb_row.Given as goal

-- the extents so far, and the others with the values that are left, are those with the whole row
abbrev pub invariant-loop-place : goal.invariant-loop-place
invariant-loop-place l = record {
  count : length l.extents ≡ length l.initial.extents;
  made : row_so_far l.extents l.place (map value_of l.values)
      ≡ row_absorbed (map extent_of l.initial.extents) (map value_of l.values);
}
