use Rattle.std.proofs.Common.{◌≡◌, ◌-◌}
use Rattle.wh_part.specs.Reading.{items_at}
use Rattle.wh_part.proofs.Loops.{with_front}
use Rattle.wh_record.specs.Decoding.{entry_at}
use Rattle.wh_record.proofs.groups_decoding.read_each_entry.Given as goal

-- the entries so far, and those that are still read, are those of all the bytes
abbrev pub invariant-loop : goal.invariant-loop
invariant-loop l = with_front l.entries.items (items_at (entry_at l.keys l.calls) (l.count - l.counter) l.rest)
    ≡ items_at (entry_at l.keys l.calls) l.count l.bytes
