-- Rows of partitions, and those that references point to.
--     rows_only, all_rows      the rows of partitions, one after the other
--     partitions_at            the partitions that references point to
use Rattle.std.specs.Prelude.{ℕ, List, map}
use Rattle.std.specs.List.{flat_map}
use denote.Ref.{Bor}
use Rattle.wh_value.specs.Value.{Row}
use Rattle.wh_frame.specs.Partition.{Partition}

abbrev pub rows_only : List (ℕ × Row) → List Row
rows_only entries = map (λ e. e.1) entries

abbrev pub all_rows : List Partition → List (ℕ × Row)
all_rows partitions = flat_map (λ p. p.rows) partitions

abbrev pub partitions_at : List (Bor Partition) → List Partition
partitions_at partitions = map (λ p. p.now) partitions
