use Rattle.std.proofs.Common.{◌≡◌, ◌-◌}
use Rattle.std.specs.Int.{w64}
use Rattle.wh_part.specs.Reading.{number_at, items_at}
use Rattle.wh_part.proofs.Loops.{with_front}
use Rattle.wh_record.proofs.decoding.read_each_number.Given as goal

-- the numbers so far, and those that are still read, are those of all the bytes
abbrev pub invariant-loop : goal.invariant-loop
invariant-loop l = with_front l.numbers.items (items_at (number_at w64) (l.count - l.counter) l.rest)
    ≡ items_at (number_at w64) l.count l.bytes
