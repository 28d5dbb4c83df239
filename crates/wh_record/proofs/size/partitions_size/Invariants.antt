use Rattle.std.proofs.Common.{◌≡◌, ◌+◌, length, drop}
use Rattle.std.specs.List.{flat_map}
use Rattle.wh_frame.specs.Spelling.{partition_bytes}
use Rattle.wh_record.proofs.size.partitions_size.Given as goal

-- the bytes so far, and those of the partitions that are left, are all of them
abbrev pub invariant-loop-outline : goal.invariant-loop-outline
invariant-loop-outline l = l.size + length (flat_map partition_bytes (drop l.outline-index l.outlines))
    ≡ l.before + length (flat_map partition_bytes l.outlines)
