use Rattle.std.proofs.Common.{◌≡◌, ◌∷◌, ◌++◌, take}
use Rattle.std.specs.List.{flat_map}
use Rattle.wh_value.specs.Value.{quoted_byte}
use Rattle.wh_value.proofs.literal.print_quoted.Given as goal

abbrev pub invariant-loop-byte : goal.invariant-loop-byte
invariant-loop-byte l = l.out ≡ l.fn.out ++ 39 ∷ flat_map quoted_byte (take l.byte-index l.text)
