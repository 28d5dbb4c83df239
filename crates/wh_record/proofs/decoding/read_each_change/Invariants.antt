use Rattle.std.proofs.Common.{◌≡◌, ◌-◌, map}
use Rattle.wh_record.specs.View.{text_change_of}
use Rattle.wh_part.specs.Reading.{items_at}
use Rattle.wh_part.proofs.Loops.{with_front}
use Rattle.wh_record.specs.Decoding.{change_at}
use Rattle.wh_record.proofs.decoding.read_each_change.Given as goal

-- the changes so far, and those that are still read, are those of all the bytes
abbrev pub invariant-loop : goal.invariant-loop
invariant-loop l = with_front (map text_change_of l.changes.items) (items_at change_at (l.count - l.counter) l.rest)
    ≡ items_at change_at l.count l.bytes
