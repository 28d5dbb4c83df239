-- The rows of the partitions that came with a version.
--     came_apart       they are apart
--     are_arrivals     their rows are what is new since the version before
use Rattle.std.proofs.Common.{◌≡◌, ℕ, zero, suc, Bool, List, [], ◌∷◌, take, drop, IsTrue, refl, subst}
use Rattle.std.proofs.lemmas.Bool.{and_parts}
use Rattle.std.specs.List.{list_all}
use Rattle.std.specs.FinMap.{entries}
use Rattle.wh_frame.specs.Partition.{Partition}
use Rattle.wh_state.specs.Commit.{AllApart}
use Rattle.wh_state.specs.Stored.{StoredVersion, rows_of}
use Rattle.wh_version.specs.Arrivals.{IsArrival}
use Rattle.wh_version.specs.History.{standing_in}
use Rattle.wh_table.specs.Apart.{is_apart, is_rising}
use Rattle.wh_table.specs.Changes.{AreArrivals}
use Rattle.wh_table.specs.Shown.{TurnsOver}
use Rattle.wh_table.proofs.Apart.{Decides-all_apart}
use Rattle.wh_table.proofs.ChangedRows.{turns_over}
use Rattle.wh_table.proofs.Pushed.{last_apart}
use Rattle.wh_table.proofs.Rising.{all_rising, last_rising, each_take}

each_drop : {X : Type 0} (test : X → Bool) (n : ℕ) (xs : List X) → IsTrue (list_all test xs)
    → IsTrue (list_all test (drop n xs))
each_drop test zero xs all = all
each_drop test (suc n) [] all = refl
each_drop test (suc n) (x ∷ xs) all = each_drop test n xs (and_parts (test x) (list_all test xs) all).1

first_of : (test : StoredVersion → Bool) (place : ℕ) (vs : List StoredVersion) (v : StoredVersion)
    (rest : List StoredVersion)
    → drop place vs ≡ v ∷ rest → IsTrue (list_all test vs) → IsTrue (test v)
first_of test place vs v rest is all =
    (and_parts (test v) (list_all test rest) (subst (λ l. IsTrue (list_all test l)) is (each_drop test place vs all))).0

module _ (stamp place : ℕ) (came : List Partition) (vs : List StoredVersion) (rising : IsTrue (list_all is_rising vs))
    (apart : IsTrue (list_all is_apart vs)) (arrival : IsArrival stamp came (take place vs) (drop place vs)) where
  turned : TurnsOver arrival.went came (rows_of (standing_in (take place vs))) (rows_of arrival.version.content)
  turned =
      turns_over arrival.went came (standing_in (take place vs)) arrival.version.content arrival.turnover
      (all_rising (standing_in (take place vs)) (last_rising (take place vs) (each_take is_rising place vs rising)))
      ((Decides-all_apart [] (standing_in (take place vs))).0
      (last_apart (take place vs) (each_take is_apart place vs apart)))
      (all_rising arrival.version.content
      (first_of is_rising place vs arrival.version arrival.rest arrival.first rising))
      ((Decides-all_apart [] arrival.version.content).0
      (first_of is_apart place vs arrival.version arrival.rest arrival.first apart))

  pub came_apart : AllApart [] came
  came_apart = turned.came_apart

  pub are_arrivals : AreArrivals stamp (entries (rows_of came)) (take place vs) (drop place vs)
  are_arrivals = record {
    version = arrival.version;
    rest = arrival.rest;
    first = arrival.first;
    stamped = arrival.stamp;
    went = entries (rows_of arrival.went);
    changes = turned.changes;
  }
