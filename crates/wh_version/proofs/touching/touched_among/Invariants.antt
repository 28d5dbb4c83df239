use Rattle.std.proofs.Common.{◌≡◌, take}
use Rattle.wh_filed.specs.Filed.{contents_at}
use Rattle.wh_state.specs.Edits.{touched}
use Rattle.wh_version.proofs.touching.touched_among.Given as goal

abbrev pub invariant-loop-partition : goal.invariant-loop-partition
invariant-loop-partition l =
    contents_at l.found.items ≡ touched l.edits (contents_at (take l.partition-index l.partitions))
