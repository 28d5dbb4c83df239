use Rattle.std.proofs.Common.{◌≡◌, map, take}
use Rattle.wh_value.specs.View.{value_of}
use Rattle.wh_value.proofs.row.Row.copy.Given as goal

abbrev pub invariant-loop-value : goal.invariant-loop-value
invariant-loop-value l = map value_of l.values.items ≡ map value_of (take l.value-index l.value-items)
