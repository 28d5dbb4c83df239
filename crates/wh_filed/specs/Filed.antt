-- Partitions whose rows stand in the file.
--     Filed             the object, where its bytes stand, how many values its rows have, and the partition itself
--     partitions_filed  the partitions themselves
--     filed_at, partitions_at     those that references point to, and the partitions themselves
--     contents_at       the partitions that references to partitions at hand point to
--     loaded_of         and those that are shared
--     IsShown, AllShown what is told of a partition is what it was
--     AreAmong          each of some is one of others: where what is told of the others is right, so it is of these
--     coded_filed       so that it can be what contracts see of a struct
use Rattle.std.specs.Prelude.{◌≡◌, ℕ, ◌+◌, ◌≤◌, List, map, length, Option, Some, refl}
use Rattle.std.specs.List.{AllByRecursion}
use Rattle.std.specs.Global.{Global}
use Rattle.std.specs.Arc.{arc_value}
use Rattle.std.specs.declared.sync.Arc.{Arc}
use denote.Ref.{Bor}
use Rattle.std.specs.Coded.{Coded, code_by, coded_ℕ, coded×}
use Rattle.wh_frame.specs.Partition.{Partition, coded_partition}
use Rattle.wh_fetch.specs.Place.{told_in}

pub record Filed : Type 0 where
  pub object : ℕ
  pub at : ℕ
  pub length : ℕ
  pub width : ℕ
  pub partition : Partition

abbrev pub partitions_filed : List Filed → List Partition
partitions_filed filed = map (λ f. f.partition) filed

abbrev pub filed_at : List (Bor Filed) → List Filed
filed_at filed = map (λ f. f.now) filed

abbrev pub partitions_at : List (Bor Filed) → List Partition
partitions_at filed = partitions_filed (filed_at filed)

abbrev pub contents_at : List (Bor Partition) → List Partition
contents_at partitions = map (λ p. p.now) partitions

abbrev pub loaded_of : List (Arc Partition Global) → List Partition
loaded_of loaded = map arc_value loaded

-- ---- what a reader is told

-- the bytes are told, its place is among them, and the partition is spelled there
pub record IsShown (told : Option (List ℕ)) (f : Filed) : Type 0 where
  pub spelled : told_in told f.width f.at f.length ≡ Some f.partition
  pub within : (bytes : List ℕ) → told ≡ Some bytes → f.at + f.length ≤ length bytes

abbrev pub AllShown : Option (List ℕ) → List Filed → Type 0
AllShown told filed = AllByRecursion (IsShown told) filed

abbrev pub AreAmong : List Filed → List Filed → Type 0
AreAmong some all = (told : Option (List ℕ)) → AllShown told all → AllShown told some

-- ---- as a value

abbrev pub coded_filed : Coded Filed
coded_filed =
    code_by (ℕ × (ℕ × (ℕ × (ℕ × Partition))))
    (coded× coded_ℕ (coded× coded_ℕ (coded× coded_ℕ (coded× coded_ℕ coded_partition))))
    (λ f. (f.object, (f.at, (f.length, (f.width, f.partition)))))
    (λ p. record {
      object = p.0;
      at = p.1.0;
      length = p.1.1.0;
      width = p.1.1.1.0;
      partition = p.1.1.1.1;
    }) (λ _. refl)
