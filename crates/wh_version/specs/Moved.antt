-- Partitions that stand in one of two versions alone.
--     has_part        whether one of a number stands in a version
--     StandsInOne     whether it stands in one of two, and not in the other
--     IsMoved         so of a partition that is filed, and of the last versions up to two times
use Rattle.std.specs.Prelude.{◌≡◌, ◌⊎◌, ℕ, Bool, true, false, List, [], Contains, nat_eq}
use Rattle.std.specs.List.{list_any}
use Rattle.wh_frame.specs.Partition.{Partition}
use Rattle.wh_filed.specs.Filed.{Filed}
use Rattle.wh_state.specs.State.{content_in}
use Rattle.wh_state.specs.Stored.{StoredVersion}
use Rattle.wh_version.specs.Times.{data_at}

abbrev pub has_part : ℕ → List Partition → Bool
has_part number content = list_any (λ p. nat_eq number p.number) content

abbrev pub StandsInOne : ℕ → List Partition → List Partition → Type 0
StandsInOne number old new =
    ((has_part number old ≡ true) × (has_part number new ≡ false))
    ⊎ ((has_part number old ≡ false) × (has_part number new ≡ true))

pub record IsMoved (from to : ℕ) (versions : List StoredVersion) (filed : List Filed) (f : Filed) : Type 0 where
  pub among : Contains filed f
  pub moved : StandsInOne f.partition.number (content_in [] (data_at from versions))
      (content_in [] (data_at to versions))
