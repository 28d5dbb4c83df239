use Rattle.std.proofs.Common.{◌≡◌, ◌-◌, map}
use Rattle.wh_dynamic.specs.View.{source_of}
use Rattle.wh_part.specs.Reading.{items_at}
use Rattle.wh_part.proofs.Loops.{with_front}
use Rattle.wh_record.specs.Decoding.{source_at}
use Rattle.wh_record.proofs.dynamic_decoding.read_each_source.Given as goal

-- the sources so far, and those that are still read, are those of all the bytes
abbrev pub invariant-loop : goal.invariant-loop
invariant-loop l = with_front (map source_of l.sources.items) (items_at source_at (l.count - l.counter) l.rest)
    ≡ items_at source_at l.count l.bytes
