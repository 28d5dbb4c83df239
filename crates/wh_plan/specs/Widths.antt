-- Partitions whose rows have so many values.
use Rattle.std.specs.Prelude.{◌≡◌, ℕ, List, length}
use Rattle.std.specs.List.{AllByRecursion}
use Rattle.wh_frame.specs.Partition.{Partition}

abbrev pub IsPartWide : ℕ → Partition → Type 0
IsPartWide width p = AllByRecursion (λ e. length e.1 ≡ width) p.rows

abbrev pub ArePartsWide : ℕ → List Partition → Type 0
ArePartsWide width ps = AllByRecursion (IsPartWide width) ps
