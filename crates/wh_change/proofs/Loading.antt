-- What came with versions, loaded for one after the other.
--     shown_at           what is told of all that came is so of what came with the version at a place
--     each_shown         it is so of each where it is so of the table's partitions
--     arrived_more       one loaded version more
use Rattle.std.specs.Prelude.{◌≡◌, ℕ, zero, suc, ◌+◌, ◌<◌, List, [], ◌∷◌, ◌++◌, length, take, Option}
use Rattle.std.specs.List.{AllByRecursion}
use Rattle.std.proofs.Common.{sym, ap, subst, ◌∙◌, get_or, arith}
use Rattle.std.proofs.lemmas.List.{take_more, map-append}
use Rattle.wh_state.proofs.AllLaws.{all_map}
use Rattle.wh_filed.specs.Filed.{Filed, filed_at, partitions_at, loaded_of, AllShown, AreAmong}
use Rattle.wh_version.specs.declared.arrivals.Arrivals.{Arrivals}
use Rattle.wh_change.specs.declared.arrived.Arrived.{Arrived}
use Rattle.wh_change.specs.Appended.{arrivals_at, arrived_of, EachShown}

pub shown_at : (told : Option (List ℕ)) (arrivals : List Arrivals) (i : ℕ) (a : Arrivals) → i < length arrivals
    → a ≡ get_or arrivals i a → EachShown told arrivals → AllShown told (filed_at a.came.items)
shown_at told [] i a within at each = absurd (omega (arith, within))
shown_at told (b ∷ bs) zero a within at each =
    subst (λ (x : Arrivals). AllShown told (filed_at x.came.items)) (sym at) each.0
shown_at told (b ∷ bs) (suc i) a within at each = shown_at told bs i a (omega (arith, within)) at each.1

pub each_shown : (told : Option (List ℕ)) (all : List Filed) (arrivals : List Arrivals)
    → AllByRecursion (λ a. AreAmong (filed_at a.came.items) all) arrivals → AllShown told all
    → EachShown told arrivals
each_shown told all arrivals among shown =
    all_map (λ a. AreAmong (filed_at a.came.items) all) (λ a. AllShown told (filed_at a.came.items))
    (λ a one. one told shown) arrivals among

pub arrived_more : (arrivals : List Arrivals) (i : ℕ) (a : Arrivals) (found new : List Arrived) (one : Arrived)
    → i < length arrivals → a ≡ get_or arrivals i a → new ≡ found ++ one ∷ []
    → arrived_of found ≡ arrivals_at (take i arrivals)
    → (one.stamp ≡ a.stamp) × (loaded_of one.came.items ≡ partitions_at a.came.items)
    → arrived_of new ≡ arrivals_at (take (i + 1) arrivals)
arrived_more arrivals i a found new one within at pushed so is =
    ap arrived_of pushed
    ∙ map-append (λ (x : Arrived). (x.stamp, loaded_of x.came.items)) found (one ∷ [])
    ∙ (λ j. so j ++ (is.0 j, is.1 j) ∷ [])
    ∙ sym (ap (λ (xs : List Arrivals). arrivals_at xs)
    (take_more arrivals i a within ∙ ap (λ y. take i arrivals ++ y ∷ []) (sym at))
    ∙ map-append (λ (x : Arrivals). (x.stamp, partitions_at x.came.items)) (take i arrivals) (a ∷ []))
