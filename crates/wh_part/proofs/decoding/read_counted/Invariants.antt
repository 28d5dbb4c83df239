use Rattle.std.proofs.Common.{◌≡◌, ◌-◌, map}
use Rattle.wh_part.specs.View.{numbered_of}
use Rattle.wh_part.specs.Reading.{items_at}
use Rattle.wh_part.specs.Decoding.{row_at}
use Rattle.wh_part.proofs.Loops.{with_front}
use Rattle.wh_part.proofs.decoding.read_counted.Given as goal

-- the rows so far, and those that are still read, are those of all the bytes
abbrev pub invariant-loop : goal.invariant-loop
invariant-loop l = with_front (map numbered_of l.rows.items) (items_at (row_at l.width) (l.count - l.counter) l.rest)
    ≡ items_at (row_at l.width) l.count l.bytes
