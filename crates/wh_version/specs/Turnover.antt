-- What a version has more than an earlier one, and less.
--     IsMixed        the partitions of two lists, each in its order
--     IsTurnover     those that went and came: what stays with the ones, and what stays and then the others
--     reach_at       the place of a version and its count of partitions, by its mark
use Rattle.std.specs.Prelude.{◌≡◌, ℕ, List, [], ◌∷◌, ◌++◌, ◌⊎◌, Option, Some, None, slice_index_or as get_or}
use Rattle.wh_frame.specs.Partition.{Partition}
use Rattle.wh_version.specs.declared.mark.VersionMark.{VersionMark}
use Rattle.wh_version.specs.declared.turnover.Reach.{Reach}

abbrev pub IsMixed : List Partition → List Partition → List Partition → Type 0
IsMixed left right [] = (left ≡ []) × (right ≡ [])
IsMixed left right (p ∷ ps) =
    ((rest : List Partition) × (left ≡ p ∷ rest) × IsMixed rest right ps)
    ⊎ ((rest : List Partition) × (right ≡ p ∷ rest) × IsMixed left rest ps)

pub record IsTurnover (went came old new : List Partition) : Type 0 where
  pub stay : List Partition
  pub before : IsMixed stay went old
  pub after : new ≡ stay ++ came

abbrev pub reach_at : List VersionMark → VersionMark → Option ℕ → Reach
reach_at marks first None = record { place = 0; partitions = 0 }
reach_at marks first (Some place) = record { place = place; partitions = (get_or marks place first).partitions }
