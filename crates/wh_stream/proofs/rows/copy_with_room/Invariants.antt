use Rattle.std.proofs.Common.{◌≡◌, map, take}
use Rattle.wh_value.specs.View.{value_of}
use Rattle.wh_stream.proofs.rows.copy_with_room.Given as goal

abbrev pub invariant-loop-value : goal.invariant-loop-value
invariant-loop-value l = l.copy ≡ map value_of (take l.value-index l.value-items)
