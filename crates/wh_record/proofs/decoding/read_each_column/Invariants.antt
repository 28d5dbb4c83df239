use Rattle.std.proofs.Common.{◌≡◌, ◌-◌, map}
use Rattle.wh_value.specs.View.{column_of}
use Rattle.wh_part.specs.Reading.{items_at}
use Rattle.wh_part.proofs.Loops.{with_front}
use Rattle.wh_record.specs.Decoding.{column_at}
use Rattle.wh_record.proofs.decoding.read_each_column.Given as goal

-- the columns so far, and those that are still read, are those of all the bytes
abbrev pub invariant-loop : goal.invariant-loop
invariant-loop l = with_front (map column_of l.columns.items) (items_at column_at (l.count - l.counter) l.rest)
    ≡ items_at column_at l.count l.bytes
