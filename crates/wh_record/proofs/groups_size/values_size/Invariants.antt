use Rattle.std.proofs.Common.{◌≡◌, ◌+◌, length, drop, map}
use Rattle.std.specs.List.{flat_map}
use Rattle.wh_frame.specs.Spelling.{value_bytes}
use Rattle.wh_value.specs.View.{value_of}
use Rattle.wh_record.proofs.groups_size.values_size.Given as goal

-- the bytes so far, and those of the values that are left, are all of them
abbrev pub invariant-loop-value : goal.invariant-loop-value
invariant-loop-value l = l.size + length (flat_map value_bytes (map value_of (drop l.value-index l.values)))
    ≡ l.before + length (flat_map value_bytes (map value_of l.values))
