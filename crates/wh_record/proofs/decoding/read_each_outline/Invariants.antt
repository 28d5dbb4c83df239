use Rattle.std.proofs.Common.{◌≡◌, ◌-◌}
use Rattle.wh_part.specs.Reading.{items_at}
use Rattle.wh_part.specs.Decoding.{partition_at}
use Rattle.wh_part.proofs.Loops.{with_front}
use Rattle.wh_record.proofs.decoding.read_each_outline.Given as goal

-- the partitions so far, and those that are still read, are those of all the bytes
abbrev pub invariant-loop : goal.invariant-loop
invariant-loop l = with_front l.outlines.items (items_at (partition_at l.width) (l.count - l.counter) l.rest)
    ≡ items_at (partition_at l.width) l.count l.bytes
