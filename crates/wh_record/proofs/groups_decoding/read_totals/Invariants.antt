use Rattle.std.proofs.Common.{◌≡◌, ◌-◌}
use Rattle.wh_part.specs.Reading.{items_at}
use Rattle.wh_part.proofs.Loops.{with_front}
use Rattle.wh_record.specs.Decoding.{total_at}
use Rattle.wh_record.proofs.groups_decoding.read_totals.Given as goal

-- the totals so far, and those that are still read, are those of all the bytes
abbrev pub invariant-loop : goal.invariant-loop
invariant-loop l = with_front l.totals.items (items_at total_at (l.calls - l.counter) l.rest)
    ≡ items_at total_at l.calls l.bytes
