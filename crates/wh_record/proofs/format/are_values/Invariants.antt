use Rattle.std.proofs.Common.{take, map}
use Rattle.std.specs.List.{AllByRecursion}
use Rattle.wh_value.specs.Value.{IsValue}
use Rattle.wh_value.specs.View.{value_of}
use Rattle.wh_record.proofs.format.are_values.Given as goal

-- the values so far may be written
abbrev pub invariant-loop-value : goal.invariant-loop-value
invariant-loop-value l = AllByRecursion IsValue (map value_of (take l.value-index l.values))
