use Rattle.std.proofs.Common.{◌≡◌, map, length}
use Rattle.wh_part.specs.Extent.{extent_of}
use Rattle.wh_part.specs.Skim.{absorbs_at}
use Rattle.wh_part.proofs.AbsorbLaws.{so_far}
use Rattle.wh_part.proofs.skimming.absorb_each.Given as goal

-- the extents so far, and those whose values are still read, are those of all the bytes
abbrev pub invariant-loop-place : goal.invariant-loop-place
invariant-loop-place l = record {
  count : length l.extents ≡ length l.initial.extents;
  read : so_far l.extents l.place l.rest ≡ absorbs_at (map extent_of l.initial.extents) l.bytes;
}
