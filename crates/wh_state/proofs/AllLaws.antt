-- What holds of each element of a list.
--     all_both, all_filter              also another thing, by two that hold, and of the elements that pass a test
--     all_map, all_append, all_more     as wh_value has them: another thing, others behind them, and one more
--     all_at, all_with, all_changed_at  the one of an id, another one there, and one that is changed
--     filter_same                       tests that agree on each element
--     among_all                         a number that is among others
use Rattle.std.proofs.Common.{◌≡◌, ℕ, zero, suc, Bool, true, false, cond, List, [], ◌∷◌, Option, Some, None}
use Rattle.std.proofs.Common.{option_map, refl, sym, subst, arith}
use Rattle.std.specs.Prelude.{slice_get, slice_set, nat_eq, ◌||◌}
use Rattle.std.proofs.lemmas.Bool.Decides.{nat_tests}
use Rattle.std.specs.List.{AllByRecursion, filter}
use Rattle.wh_state.specs.State.{at_id, with_id, put_at, changed_at}
use Rattle.wh_state.specs.Edits.{is_among}
pub use Rattle.wh_value.proofs.ListLaws.{all_map, all_append, all_more}

pub all_both : {X : Type 0} (P Q R : X → Type 0) → ((x : X) → P x → Q x → R x) → (xs : List X)
    → AllByRecursion P xs → AllByRecursion Q xs → AllByRecursion R xs
all_both P Q R so [] h k = tt
all_both P Q R so (x ∷ xs) h k = (so x h.0 k.0, all_both P Q R so xs h.1 k.1)

pub all_filter : {X : Type 0} (P : X → Type 0) (test : X → Bool) (xs : List X) → AllByRecursion P xs
    → AllByRecursion P (filter test xs)
all_filter P test [] h = tt
all_filter P test (x ∷ xs) h = by_test (test x) (all_filter P test xs h.1)
  where
    by_test : (b : Bool) → AllByRecursion P (filter test xs)
        → AllByRecursion P (cond b (x ∷ filter test xs) (filter test xs))
    by_test true rest = (h.0, rest)
    by_test false rest = rest

pub filter_same : {X : Type 0} (test other : X → Bool) (xs : List X) → AllByRecursion (λ x. test x ≡ other x) xs
    → filter test xs ≡ filter other xs
filter_same test other [] same = refl
filter_same test other (x ∷ xs) same =
    let here : test x ≡ other x = same.0 in
    let rest = filter_same test other xs same.1 in
    rw (here, rest) refl

all_get : {X : Type 0} (P : X → Type 0) (xs : List X) (place : ℕ) (x : X)
    → AllByRecursion P xs → slice_get xs place ≡ Some x → P x
all_get P [] place x h e = absurd cc
all_get P (y ∷ ys) zero x h e = let same : y ≡ x = cc in subst P same h.0
all_get P (y ∷ ys) (suc place) x h e = all_get P ys place x h.1 e

all_set : {X : Type 0} (P : X → Type 0) (xs : List X) (place : ℕ) (x : X)
    → AllByRecursion P xs → P x → AllByRecursion P (slice_set xs place x)
all_set P [] place x h here = tt
all_set P (y ∷ ys) zero x h here = (here, h.1)
all_set P (y ∷ ys) (suc place) x h here = (h.0, all_set P ys place x h.1 here)

pub all_at : {X : Type 0} (P : X → Type 0) (xs : List X) (id : ℕ) (x : X) → AllByRecursion P xs → at_id xs id ≡ Some x
    → P x
all_at P xs zero x h e = absurd cc
all_at P xs (suc place) x h e = all_get P xs place x h e

pub all_with : {X : Type 0} (P : X → Type 0) (xs : List X) (id : ℕ) (x : X) → AllByRecursion P xs → P x
    → AllByRecursion P (with_id xs id x)
all_with P xs zero x h here = h
all_with P xs (suc place) x h here = all_set P xs place x h here

-- what each element comes to have, and the one that is changed has too
pub all_changed_at : {X : Type 0} (P Q : X → Type 0) (f : X → X) → ((x : X) → P x → Q x) → ((x : X) → P x → Q (f x))
    → (xs : List X) (id : ℕ) → AllByRecursion P xs → AllByRecursion Q (changed_at xs id f)
all_changed_at P Q f so changes xs id h = by_found (at_id xs id) refl
  where
    by_found : (found : Option _) → at_id xs id ≡ found → AllByRecursion Q (put_at xs id (option_map f found))
    by_found None none = all_map P Q so xs h
    by_found (Some x) there = all_with Q xs id (f x) (all_map P Q so xs h) (changes x (all_at P xs id x h there))

-- ---- numbers

pub among_all : (P : ℕ → Type 0) (id : ℕ) (ids : List ℕ) → AllByRecursion P ids → is_among id ids ≡ true → P id
among_all P id [] all is = absurd cc
among_all P id (x ∷ xs) all is = by_test (nat_eq id x) refl is (λ rest. among_all P id xs all.1 rest)
  where
    same_by : nat_eq id x ≡ true → id ≡ x
    same_by test = grind (arith, nat_tests)

    by_test : (same : Bool) → nat_eq id x ≡ same → (same || is_among id xs) ≡ true → (is_among id xs ≡ true → P id)
        → P id
    by_test true test is rest = subst P (sym (same_by test)) all.0
    by_test false test is rest = rest is
