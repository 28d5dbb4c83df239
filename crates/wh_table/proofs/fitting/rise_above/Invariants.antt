use Rattle.std.proofs.Common.{◌≡◌, map, drop}
use Rattle.wh_table.specs.Conditions.{rises_above}
use Rattle.wh_table.proofs.fitting.rise_above.Given as goal

abbrev pub invariant-loop-partition : goal.invariant-loop-partition
invariant-loop-partition g l =
    rises_above l.highest (map g.P.Ranged.rows (drop l.partition-index l.partitions))
    ≡ rises_above l.bound (map g.P.Ranged.rows l.partitions)
