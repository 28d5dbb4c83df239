use Rattle.std.proofs.Common.{◌≡◌, drop}
use Rattle.wh_table.specs.Rows.{all_rows, partitions_at}
use Rattle.wh_refresh.specs.Walk.{walked, walk_of, nothing_walked}
use Rattle.wh_refresh.proofs.rebase.walk_over.Given as goal

abbrev pub invariant-loop-partition : goal.invariant-loop-partition
invariant-loop-partition l =
    walked l.new (all_rows (partitions_at (drop l.partition-index l.old))) (walk_of l.walk)
    ≡ walked l.new (all_rows (partitions_at l.old)) nothing_walked
