use Rattle.std.proofs.Common.{◌≡◌, map, take}
use Rattle.wh_part.specs.Extent.{extent_of}
use Rattle.wh_part.specs.Outline.{types_in}
use Rattle.wh_part.proofs.extents.types_from.Given as goal

abbrev pub invariant-loop-extent : goal.invariant-loop-extent
invariant-loop-extent l = l.types.items ≡ types_in (map extent_of (take l.extent-index l.extents))
