use Rattle.std.proofs.Common.{◌≡◌, ◌++◌, take, map}
use Rattle.std.specs.List.{flat_map}
use Rattle.wh_frame.specs.Spelling.{value_bytes}
use Rattle.wh_value.specs.View.{value_of}
use Rattle.wh_part.proofs.encoding.write_values.Given as goal

-- the values so far are written
abbrev pub invariant-loop-value : goal.invariant-loop-value
invariant-loop-value l = l.out ≡ l.fn.out ++ flat_map value_bytes (map value_of (take l.value-index l.values))
