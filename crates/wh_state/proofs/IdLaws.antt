-- Lists by ids and names, where each element is looked at through a function.
--     map_at, map_with, map_put         what stands at an id, and another value there
--     map_changed                       what stands there is changed
--     at_spared, at_other, with_same    what stands at another id stays, and what is put in its own place
--     changed_same                      a change that leaves everything
--     map_last, last_more               the last element
--     map_position, map_count           the first that passes a test, and how many pass
use Rattle.std.proofs.Common.{◌≡◌, ℕ, zero, suc, ◌+◌, ◌<◌, Bool, cond, List, [], ◌∷◌, ◌++◌, map}
use Rattle.std.proofs.Common.{Option, Some, None, option_map, refl, sym, ap, ◌∙◌, arith}
use Rattle.std.specs.Prelude.{slice_get, slice_set, not, fold, count_by}
use Rattle.std.specs.List.{position, prefix_len}
use Rattle.std.proofs.lemmas.List.{length-map}
use Rattle.wh_state.specs.State.{at_id, with_id, put_at, changed_at, last_of}

-- ---- by ids

map_get : {X Y : Type 0} (f : X → Y) (xs : List X) (place : ℕ)
    → slice_get (map f xs) place ≡ option_map f (slice_get xs place)
map_get f [] place = refl
map_get f (x ∷ xs) zero = refl
map_get f (x ∷ xs) (suc place) = map_get f xs place

map_set : {X Y : Type 0} (f : X → Y) (xs : List X) (place : ℕ) (x : X)
    → map f (slice_set xs place x) ≡ slice_set (map f xs) place (f x)
map_set f [] place x = refl
map_set f (y ∷ ys) zero x = refl
map_set f (y ∷ ys) (suc place) x = ap (λ (l : List _). f y ∷ l) (map_set f ys place x)

pub map_at : {X Y : Type 0} (f : X → Y) (xs : List X) (id : ℕ) → at_id (map f xs) id ≡ option_map f (at_id xs id)
map_at f xs zero = refl
map_at f xs (suc place) = map_get f xs place

pub map_with : {X Y : Type 0} (f : X → Y) (xs : List X) (id : ℕ) (x : X)
    → map f (with_id xs id x) ≡ with_id (map f xs) id (f x)
map_with f xs zero x = refl
map_with f xs (suc place) x = map_set f xs place x

pub map_put : {X Y : Type 0} (f : X → Y) (xs : List X) (id : ℕ) (found : Option X)
    → map f (put_at xs id found) ≡ put_at (map f xs) id (option_map f found)
map_put f xs id None = refl
map_put f xs id (Some x) = map_with f xs id x

-- where both changes agree
pub map_changed : {X Y : Type 0} (f : X → Y) (g : X → X) (h : Y → Y) → ((x : X) → f (g x) ≡ h (f x))
    → (xs : List X) (id : ℕ) → map f (changed_at xs id g) ≡ changed_at (map f xs) id h
map_changed f g h same xs id =
    map_put f xs id (option_map g (at_id xs id))
    ∙ ap (put_at (map f xs) id) (through (at_id xs id) ∙ ap (option_map h) (sym (map_at f xs id)))
  where
    through : (found : Option _) → option_map f (option_map g found) ≡ option_map h (option_map f found)
    through None = refl
    through (Some x) = ap Some (same x)

-- what stands there, in its own place
set_same : {X : Type 0} (xs : List X) (place : ℕ) (x : X) → slice_get xs place ≡ Some x → slice_set xs place x ≡ xs
set_same [] place x there = refl
set_same (y ∷ ys) zero x there = let same : y ≡ x = cc in ap (λ (z : _). z ∷ ys) (sym same)
set_same (y ∷ ys) (suc place) x there = ap (λ (l : List _). y ∷ l) (set_same ys place x there)

pub with_same : {X : Type 0} (xs : List X) (id : ℕ) (x : X) → at_id xs id ≡ Some x → with_id xs id x ≡ xs
with_same xs zero x there = refl
with_same xs (suc place) x there = set_same xs place x there

-- a change that leaves everything as it is
pub changed_same : {X : Type 0} (f : X → X) → ((x : X) → f x ≡ x) → (xs : List X) (id : ℕ) → changed_at xs id f ≡ xs
changed_same f same xs id = by_found (at_id xs id) refl
  where
    by_found : (found : Option _) → at_id xs id ≡ found → put_at xs id (option_map f found) ≡ xs
    by_found None none = refl
    by_found (Some x) there = ap (with_id xs id) (same x) ∙ with_same xs id x there

-- what stands at another place
get_spared : {X : Type 0} (xs : List X) (place other : ℕ) (y : X) → (other ≡ place → ⊥)
    → slice_get (slice_set xs place y) other ≡ slice_get xs other
get_spared [] place other y apart = refl
get_spared (x ∷ xs) zero zero y apart = absurd (apart refl)
get_spared (x ∷ xs) zero (suc other) y apart = refl
get_spared (x ∷ xs) (suc place) zero y apart = refl
get_spared (x ∷ xs) (suc place) (suc other) y apart = get_spared xs place other y (λ same. apart (ap suc same))

with_spared : {X : Type 0} (xs : List X) (id other : ℕ) (y : X) → (other ≡ id → ⊥)
    → at_id (with_id xs id y) other ≡ at_id xs other
with_spared xs zero other y apart = refl
with_spared xs (suc place) zero y apart = refl
with_spared xs (suc place) (suc other) y apart = get_spared xs place other y (λ same. apart (ap suc same))

pub at_spared : {X : Type 0} (f : X → X) (xs : List X) (id other : ℕ) → (other ≡ id → ⊥)
    → at_id (changed_at xs id f) other ≡ at_id xs other
at_spared f xs id other apart = by_found (at_id xs id)
  where
    by_found : (found : Option _) → at_id (put_at xs id (option_map f found)) other ≡ at_id xs other
    by_found None = refl
    by_found (Some x) = with_spared xs id other (f x) apart

pub at_other : {X : Type 0} (f : X → X) (xs : List X) (id later : ℕ) → id < later
    → at_id (changed_at xs id f) later ≡ at_id xs later
at_other f xs id later h = at_spared f xs id later (λ same. omega (arith, same))

-- ---- the last element

pub map_last : {X Y : Type 0} (f : X → Y) (xs : List X) → last_of (map f xs) ≡ option_map f (last_of xs)
map_last f [] = refl
map_last f (x ∷ []) = refl
map_last f (x ∷ y ∷ xs) = map_last f (y ∷ xs)

pub last_more : {X : Type 0} (xs : List X) (x : X) → last_of (xs ++ x ∷ []) ≡ Some x
last_more [] x = refl
last_more (y ∷ []) x = refl
last_more (y ∷ z ∷ ys) x = last_more (z ∷ ys) x

-- ---- tests

map_prefix : {X Y : Type 0} (f : X → Y) (p : X → Bool) (q : Y → Bool) → ((x : X) → q (f x) ≡ p x)
    → (xs : List X) → prefix_len (λ y. not (q y)) (map f xs) ≡ prefix_len (λ x. not (p x)) xs
map_prefix f p q same [] = refl
map_prefix f p q same (x ∷ xs) =
    let rest = map_prefix f p q same xs in
    rw (same x, rest)

-- where both tests agree
pub map_position : {X Y : Type 0} (f : X → Y) (p : X → Bool) (q : Y → Bool) → ((x : X) → q (f x) ≡ p x)
    → (xs : List X) → position q (map f xs) ≡ position p xs
map_position f p q same xs =
    let first = map_prefix f p q same xs in
    rw (first, length-map)

map_fold : {X Y A : Type 0} (f : X → Y) (g : A → Y → A) (h : A → X → A) → ((a : A) (x : X) → g a (f x) ≡ h a x)
    → (a : A) (xs : List X) → fold g a (map f xs) ≡ fold h a xs
map_fold f g h same a [] = refl
map_fold f g h same a (x ∷ xs) = ap (λ (b : _). fold g b (map f xs)) (same a x) ∙ map_fold f g h same (h a x) xs

pub map_count : {X Y : Type 0} (f : X → Y) (p : X → Bool) (q : Y → Bool) → ((x : X) → q (f x) ≡ p x)
    → (xs : List X) → count_by q (map f xs) ≡ count_by p xs
map_count f p q same xs = map_fold f (λ a y. a + cond (q y) 1 0) (λ a x. a + cond (p x) 1 0)
    (λ a x. ap (λ (b : Bool). a + cond b 1 0) (same x)) 0 xs
