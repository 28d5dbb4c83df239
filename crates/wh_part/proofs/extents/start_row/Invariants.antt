use Rattle.std.proofs.Common.{◌≡◌, map, take}
use Rattle.wh_value.specs.View.{value_of}
use Rattle.wh_part.specs.Extent.{extent_of, started}
use Rattle.wh_part.proofs.extents.start_row.Given as goal

abbrev pub invariant-loop-value : goal.invariant-loop-value
invariant-loop-value l = map extent_of l.extents.items ≡ map started (map value_of (take l.value-index l.values))
