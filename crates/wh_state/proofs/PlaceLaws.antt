-- The places of a list by its ids.
--     at_within              the ids go from 1 to its length
--     at_front, at_either    with others behind it, and with one
--     all_from               what holds of each place holds of all
--     changed_twice          two changes of one place
use Rattle.std.proofs.Common.{◌≡◌, ℕ, zero, suc, ◌<◌, ◌≤◌, ◌⊎◌, inl, inr, List, [], ◌∷◌, ◌++◌, length, Option, Some}
use Rattle.std.proofs.Common.{None}
use Rattle.std.proofs.Common.{option_map, refl, sym, ap, ◌∙◌, arith}
use Rattle.std.specs.Prelude.{slice_get, slice_set}
use Rattle.std.specs.List.{AllByRecursion}
use Rattle.wh_state.specs.State.{at_id, changed_at}
use Rattle.wh_state.specs.State.{with_id, put_at}
use Rattle.wh_state.proofs.FoundLaws.{at_same}

-- ---- places

get_within : {X : Type 0} (xs : List X) (place : ℕ) (x : X) → slice_get xs place ≡ Some x → place < length xs
get_within [] place x there = absurd cc
get_within (y ∷ ys) zero x there = omega arith
get_within (y ∷ ys) (suc place) x there = omega (arith, get_within ys place x there)

-- the ids of a list go from 1 to its length
pub at_within : {X : Type 0} (xs : List X) (id : ℕ) (x : X) → at_id xs id ≡ Some x → (0 < id) × (id ≤ length xs)
at_within xs zero x there = absurd cc
at_within xs (suc place) x there = (omega arith, omega (arith, get_within xs place x there))

get_front : {X : Type 0} (xs ys : List X) (place : ℕ) → place < length xs
    → slice_get (xs ++ ys) place ≡ slice_get xs place
get_front [] ys place h = absurd (omega arith)
get_front (x ∷ xs) ys zero h = refl
get_front (x ∷ xs) ys (suc place) h = get_front xs ys place (omega (arith, h))

pub at_front : {X : Type 0} (xs ys : List X) (id : ℕ) → id ≤ length xs → at_id (xs ++ ys) id ≡ at_id xs id
at_front xs ys zero h = refl
at_front xs ys (suc place) h = get_front xs ys place (omega (arith, h))

-- one of the list, or the one behind it
get_either : {X : Type 0} (xs : List X) (x y : X) (place : ℕ) → slice_get (xs ++ x ∷ []) place ≡ Some y
    → (place < length xs) ⊎ ((place ≡ length xs) × (x ≡ y))
get_either [] x y zero is = inr (refl, cc)
get_either [] x y (suc place) is = absurd cc
get_either (z ∷ zs) x y zero is = inl (omega arith)
get_either (z ∷ zs) x y (suc place) is = further (get_either zs x y place is)
  where
    further : (place < length zs) ⊎ ((place ≡ length zs) × (x ≡ y))
        → (suc place < suc (length zs)) ⊎ ((suc place ≡ suc (length zs)) × (x ≡ y))
    further (inl within) = inl (omega (arith, within))
    further (inr last) = inr (ap suc last.0, last.1)

pub at_either : {X : Type 0} (xs : List X) (x y : X) (id : ℕ) → at_id (xs ++ x ∷ []) id ≡ Some y
    → (id ≤ length xs) ⊎ ((id ≡ suc (length xs)) × (x ≡ y))
at_either xs x y zero is = absurd cc
at_either xs x y (suc place) is = by_place (get_either xs x y place is)
  where
    by_place : (place < length xs) ⊎ ((place ≡ length xs) × (x ≡ y))
        → (suc place ≤ length xs) ⊎ ((suc place ≡ suc (length xs)) × (x ≡ y))
    by_place (inl within) = inl (omega (arith, within))
    by_place (inr last) = inr (ap suc last.0, last.1)

pub all_from : {X : Type 0} (P : X → Type 0) (xs : List X) → ((place : ℕ) (x : X) → slice_get xs place ≡ Some x → P x)
    → AllByRecursion P xs
all_from P [] each = tt
all_from P (x ∷ xs) each = (each 0 x refl, all_from P xs (λ place y is. each (suc place) y is))

-- ---- changes

get_set : {X : Type 0} (xs : List X) (place : ℕ) (x y : X)
    → slice_set (slice_set xs place x) place y ≡ slice_set xs place y
get_set [] place x y = refl
get_set (z ∷ zs) zero x y = refl
get_set (z ∷ zs) (suc place) x y = ap (λ (l : List _). z ∷ l) (get_set zs place x y)

with_twice : {X : Type 0} (xs : List X) (id : ℕ) (x y : X) → with_id (with_id xs id x) id y ≡ with_id xs id y
with_twice xs zero x y = refl
with_twice xs (suc place) x y = get_set xs place x y

-- changed twice
pub changed_twice : {X : Type 0} (f g : X → X) (xs : List X) (id : ℕ)
    → changed_at (changed_at xs id f) id g ≡ changed_at xs id (λ x. g (f x))
changed_twice f g xs id = by_found (at_id xs id) refl
  where
    by_found : (found : Option _) → at_id xs id ≡ found
        → changed_at (put_at xs id (option_map f found)) id g ≡ put_at xs id (option_map (λ x. g (f x)) found)
    by_found None none = ap (λ (found : Option _). put_at xs id (option_map g found)) none
    by_found (Some x) there =
        ap (λ (found : Option _). put_at (with_id xs id (f x)) id (option_map g found))
        (ap (λ (found : Option _). at_id (put_at xs id (option_map f found)) id) (sym there) ∙ at_same f xs id x there)
        ∙ with_twice xs id (f x) (g (f x))
