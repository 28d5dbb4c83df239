use Rattle.std.proofs.Common.{◌≡◌, ◌-◌}
use Rattle.std.specs.Int.{w32}
use Rattle.wh_part.specs.Reading.{number_at, items_at}
use Rattle.wh_part.proofs.Loops.{with_front}
use Rattle.wh_record.proofs.task_decoding.read_each_id.Given as goal

-- the ids so far, and those that are still read, are those of all the bytes
abbrev pub invariant-loop : goal.invariant-loop
invariant-loop l = with_front l.ids.items (items_at (number_at w32) (l.count - l.counter) l.rest)
    ≡ items_at (number_at w32) l.count l.bytes
