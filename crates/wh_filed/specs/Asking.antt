-- What a reader asks of a fetch.
--     id_of, names_at     the name of a partition, and those of the ones that references point to
--     IsNameOf     a name of one of those of which something holds
--     AsksFor      only such names came on the list
--     is_name, times     how often a name stands on a list
--     AsksAmong    each name came on the list at most as often as it stands on another
use Rattle.std.specs.Prelude.{◌≡◌, ◌≤◌, ℕ, Bool, ◌&&◌, ◌==◌, List, ◌++◌, map}
use denote.Ref.{Bor}
use Rattle.std.specs.List.{AllByRecursion, count_by}
use Rattle.wh_part.specs.declared.meta.PartId.{PartId}
use Rattle.wh_filed.specs.Filed.{Filed, filed_at}

abbrev pub id_of : Filed → PartId
id_of f = record { object = f.object; number = f.partition.number }

abbrev pub names_at : List (Bor Filed) → List PartId
names_at filed = map id_of (filed_at filed)

abbrev pub IsNameOf : (Filed → Type 0) → PartId → Type 0
IsNameOf Holds id = (f : Filed) × Holds f × (id ≡ id_of f)

pub record AsksFor (Holds : Filed → Type 0) (before after : List PartId) : Type 0 where
  pub more : List PartId
  pub behind : after ≡ before ++ more
  pub named : AllByRecursion (IsNameOf Holds) more

abbrev pub is_name : PartId → PartId → Bool
is_name id other = (id.object == other.object) && (id.number == other.number)

abbrev pub times : PartId → List PartId → ℕ
times id names = count_by (is_name id) names

pub record AsksAmong (names before after : List PartId) : Type 0 where
  pub more : List PartId
  pub behind : after ≡ before ++ more
  pub among : (id : PartId) → times id more ≤ times id names
