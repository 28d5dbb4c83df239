-- What the spelling of partitions fixes.
use Rattle.std.specs.Prelude.{◌≡◌, ℕ, List, ◌++◌}
use Rattle.wh_frame.specs.Partition.{Partition}
use Rattle.wh_frame.specs.Spelling.{partition_bytes, IsPartition}

-- no partition's spelling begins another's, nor has one spelling two partitions
abbrev pub SpellingFixesPartitions : Type 0
SpellingFixesPartitions = (width : ℕ) (p q : Partition) (x y : List ℕ) → IsPartition width p → IsPartition width q
    → partition_bytes p ++ x ≡ partition_bytes q ++ y → (p ≡ q) × (x ≡ y)
