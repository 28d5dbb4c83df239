use Rattle.std.proofs.Common.{◌≡◌, ◌+◌, drop}
use Rattle.wh_version.specs.Lasting.{numbered_from}
use Rattle.wh_table.proofs.fitting.are_numbered.Given as goal

abbrev pub invariant-loop-partition : goal.invariant-loop-partition
invariant-loop-partition l = (l.number ≡ l.next + l.partition-index)
    × (numbered_from l.number (drop l.partition-index l.partitions) ≡ numbered_from l.next l.partitions)
