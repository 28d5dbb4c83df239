-- Partitions whose row numbers rise.
use Rattle.std.proofs.Common.{◌≡◌, ℕ, zero, suc, ◌+◌, Bool, true, false, cond, List, [], ◌∷◌, ◌++◌}
use Rattle.std.proofs.Common.{filter, take, IsTrue, refl}
use Rattle.std.proofs.lemmas.Bool.{and_parts, and_from, le-leb}
use Rattle.std.specs.List.{list_all, AllByRecursion}
use Rattle.wh_value.specs.Value.{Row}
use Rattle.wh_frame.specs.Partition.{Partition}
use Rattle.wh_frame.specs.Spelling.{RisesFrom}
use Rattle.wh_state.specs.Stored.{StoredVersion}
use Rattle.wh_state.specs.Orderly.{HasRisingRows}
use Rattle.wh_part.specs.Decoding.{rises_from}
use Rattle.wh_part.proofs.PartitionLaws.{rising_is}
use Rattle.wh_version.specs.Lists.{shortened}
use Rattle.wh_version.specs.History.{standing_in, popped}
use Rattle.wh_table.specs.Apart.{rows_rise, is_rising}

pub rows_are_rising : (least : ℕ) (rows : List (ℕ × Row)) → RisesFrom least rows → rises_from least rows ≡ true
rows_are_rising least [] up = refl
rows_are_rising least (r ∷ rows) up = and_from _ _ (le-leb least r.0 up.0) (rows_are_rising (r.0 + 1) rows up.1)

pub all_rising : (ps : List Partition) → IsTrue (list_all rows_rise ps) → AllByRecursion HasRisingRows ps
all_rising [] up = tt
all_rising (p ∷ ps) up = let parts = and_parts (rows_rise p) (list_all rows_rise ps) up in
    (rising_is 0 p.rows parts.0, all_rising ps parts.1)

-- ---- tests of all elements

pub each_filter : {X : Type 0} (test keep : X → Bool) (xs : List X) → IsTrue (list_all test xs)
    → IsTrue (list_all test (filter keep xs))
each_filter test keep [] all = refl
each_filter test keep (x ∷ xs) all =
    let parts = and_parts (test x) (list_all test xs) all in
    pick (keep x) parts.0 (each_filter test keep xs parts.1)
  where
    pick : (b : Bool) → IsTrue (test x) → IsTrue (list_all test (filter keep xs))
        → IsTrue (list_all test (cond b (x ∷ filter keep xs) (filter keep xs)))
    pick true here rest = and_from _ _ here rest
    pick false here rest = rest

pub each_append : {X : Type 0} (test : X → Bool) (xs ys : List X) → IsTrue (list_all test xs)
    → IsTrue (list_all test ys)
    → IsTrue (list_all test (xs ++ ys))
each_append test [] ys left right = right
each_append test (x ∷ xs) ys left right =
    let parts = and_parts (test x) (list_all test xs) left in
    and_from _ _ parts.0 (each_append test xs ys parts.1 right)

pub each_take : {X : Type 0} (test : X → Bool) (n : ℕ) (xs : List X) → IsTrue (list_all test xs)
    → IsTrue (list_all test (take n xs))
each_take test zero xs all = refl
each_take test (suc n) [] all = refl
each_take test (suc n) (x ∷ xs) all = let parts = and_parts (test x) (list_all test xs) all in
    and_from _ _ parts.0 (each_take test n xs parts.1)

each_shortened : {X : Type 0} (test : X → Bool) (xs : List X) → IsTrue (list_all test xs)
    → IsTrue (list_all test (shortened xs))
each_shortened test [] all = refl
each_shortened test (x ∷ xs) all = let parts = and_parts (test x) (list_all test xs) all in
    and_from _ _ parts.0 (each_take test _ xs parts.1)

pub each_popped : {X : Type 0} (test : X → Bool) (b : Bool) (xs : List X) → IsTrue (list_all test xs)
    → IsTrue (list_all test (popped b xs))
each_popped test true xs all = each_take test _ xs all
each_popped test false xs all = each_shortened test xs all

pub last_rising : (vs : List StoredVersion) → IsTrue (list_all is_rising vs)
    → IsTrue (list_all rows_rise (standing_in vs))
last_rising [] rising = refl
last_rising (v ∷ []) rising = (and_parts (is_rising v) true rising).0
last_rising (v ∷ w ∷ vs) rising = last_rising (w ∷ vs) (and_parts (is_rising v) (list_all is_rising (w ∷ vs)) rising).1
