use Rattle.std.proofs.Common.{◌≡◌, ◌++◌, map, drop}
use Rattle.wh_filed.specs.Filed.{contents_at}
use Rattle.wh_version.proofs.touching.numbers.Given as goal

abbrev pub invariant-loop-partition : goal.invariant-loop-partition
invariant-loop-partition l = l.numbers.items ++ map (λ p. p.number)
    (contents_at (drop l.partition-index l.partitions)) ≡ map (λ p. p.number) (contents_at l.partitions)
