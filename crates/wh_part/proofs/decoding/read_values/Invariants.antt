use Rattle.std.proofs.Common.{◌≡◌, ◌-◌, map}
use Rattle.wh_value.specs.View.{value_of}
use Rattle.wh_part.specs.Reading.{items_at}
use Rattle.wh_part.specs.Decoding.{value_at}
use Rattle.wh_part.proofs.Loops.{with_front}
use Rattle.wh_part.proofs.decoding.read_values.Given as goal

-- the values so far, and those that are still read, are those of all the bytes
abbrev pub invariant-loop : goal.invariant-loop
invariant-loop l = with_front (map value_of l.values.items) (items_at value_at (l.width - l.counter) l.rest) ≡ items_at value_at l.width l.bytes
