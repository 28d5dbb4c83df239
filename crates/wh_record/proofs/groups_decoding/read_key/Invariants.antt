use Rattle.std.proofs.Common.{◌≡◌, ◌-◌}
use Rattle.wh_part.specs.Decoding.{value_at}
use Rattle.wh_part.specs.Reading.{items_at}
use Rattle.wh_part.proofs.Loops.{with_front}
use Rattle.wh_record.proofs.groups_decoding.read_key.Given as goal

-- the values so far, and those that are still read, are those of all the bytes
abbrev pub invariant-loop : goal.invariant-loop
invariant-loop l = with_front l.key (items_at value_at (l.keys - l.counter) l.rest) ≡ items_at value_at l.keys l.bytes
