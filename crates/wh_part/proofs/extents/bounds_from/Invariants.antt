use Rattle.std.proofs.Common.{◌≡◌, map, take}
use Rattle.wh_part.specs.Extent.{extent_of}
use Rattle.wh_part.specs.Holding.{sides_of}
use Rattle.wh_part.specs.Outline.{ends_of}
use Rattle.wh_part.proofs.extents.bounds_from.Given as goal

abbrev pub invariant-loop-extent : goal.invariant-loop-extent
invariant-loop-extent l = map sides_of l.columns.items ≡ map ends_of (map extent_of (take l.extent-index l.extents))
