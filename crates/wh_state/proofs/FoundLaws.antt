-- What holds of what stands at an id, and still does behind a change.
--     found_at                    what stands there
--     found_became                it is changed, and has another thing
--     found_changed               another one is changed, or it is and still has it
--     found_spared                what stands at another id stays
--     found_more                  more behind them
--     if_found_changed, if_found_more     the same of what stands there, if anything does
use Rattle.std.proofs.Common.{◌≡◌, ℕ, zero, suc, List, [], ◌∷◌, ◌++◌, Option, Some, None, option_map, refl, sym}
use Rattle.std.proofs.Common.{subst, ap, ◌∙◌, ◌⊎◌, inl, inr, arith}
use Rattle.std.specs.Prelude.{slice_get, slice_set}
use Rattle.std.specs.Option.{IsSomeAnd, IfSome}
use Rattle.wh_state.specs.State.{at_id, with_id, put_at, changed_at}
use Rattle.wh_state.proofs.IdLaws.{at_spared}

-- what stands at an id has it
abbrev pub FoundAt : {X : Type 0} → (X → Type 0) → List X → ℕ → Type 0
FoundAt P xs id = IsSomeAnd (at_id xs id) P

pub found_some : {X : Type 0} (P : X → Type 0) (xs : List X) (id : ℕ) (x : X) → at_id xs id ≡ Some x → P x
    → FoundAt P xs id
found_some P xs id x there h = subst (λ found. IsSomeAnd found P) (sym there) h

-- ---- one that is changed

get_kept : {X : Type 0} (P : X → Type 0) (xs : List X) (place other : ℕ) (y : X) → P y
    → IsSomeAnd (slice_get xs other) P → IsSomeAnd (slice_get (slice_set xs place y) other) P
get_kept P [] place other y new h = h
get_kept P (x ∷ xs) zero zero y new h = new
get_kept P (x ∷ xs) zero (suc other) y new h = h
get_kept P (x ∷ xs) (suc place) zero y new h = h
get_kept P (x ∷ xs) (suc place) (suc other) y new h = get_kept P xs place other y new h

-- at another id
pub found_spared : {X : Type 0} (P : X → Type 0) (f : X → X) (xs : List X) (id other : ℕ) → (other ≡ id → ⊥)
    → FoundAt P xs other → FoundAt P (changed_at xs id f) other
found_spared P f xs id other apart h = subst (λ found. IsSomeAnd found P) (sym (at_spared f xs id other apart)) h

set_get : {X : Type 0} (xs : List X) (place : ℕ) (x y : X) → slice_get xs place ≡ Some x
    → slice_get (slice_set xs place y) place ≡ Some y
set_get [] place x y there = absurd cc
set_get (z ∷ zs) zero x y there = refl
set_get (z ∷ zs) (suc place) x y there = set_get zs place x y there

with_same_id : {X : Type 0} (xs : List X) (id : ℕ) (x y : X) → at_id xs id ≡ Some x →
    at_id (with_id xs id y) id ≡ Some y
with_same_id xs zero x y there = absurd cc
with_same_id xs (suc place) x y there = set_get xs place x y there

pub at_same : {X : Type 0} (f : X → X) (xs : List X) (id : ℕ) (x : X) → at_id xs id ≡ Some x
    → at_id (changed_at xs id f) id ≡ Some (f x)
at_same f xs id x there =
    ap (λ (found : Option _). at_id (put_at xs id (option_map f found)) id) there ∙ with_same_id xs id x (f x) there

pub same_or_not : (m n : ℕ) → (m ≡ n) ⊎ (m ≡ n → ⊥)
same_or_not zero zero = inl refl
same_or_not zero (suc n) = inr (λ same. omega arith)
same_or_not (suc m) zero = inr (λ same. omega arith)
same_or_not (suc m) (suc n) = later (same_or_not m n)
  where
    later : (m ≡ n) ⊎ (m ≡ n → ⊥) → (suc m ≡ suc n) ⊎ (suc m ≡ suc n → ⊥)
    later (inl same) = inl (ap suc same)
    later (inr apart) = inr (λ same. apart (omega arith))

-- the one that is changed comes to have another thing
pub found_became : {X : Type 0} (P Q : X → Type 0) (f : X → X) → ((x : X) → P x → Q (f x)) → (xs : List X) (id : ℕ)
    → FoundAt P xs id → FoundAt Q (changed_at xs id f) id
found_became P Q f becomes xs id h = by_found (at_id xs id) refl h
  where
    by_found : (found : Option _) → at_id xs id ≡ found → IsSomeAnd found P → FoundAt Q (changed_at xs id f) id
    by_found None none h = absurd h
    by_found (Some x) there h = found_some Q (changed_at xs id f) id (f x) (at_same f xs id x there) (becomes x h)

-- whichever is changed, where the change keeps it
pub found_changed : {X : Type 0} (P : X → Type 0) (f : X → X) → ((x : X) → P x → P (f x)) → (xs : List X) (id other : ℕ)
    → FoundAt P xs other → FoundAt P (changed_at xs id f) other
found_changed P f keeps xs id other h = by_id (same_or_not other id)
  where
    by_id : (other ≡ id) ⊎ (other ≡ id → ⊥) → FoundAt P (changed_at xs id f) other
    by_id (inl same) =
        subst (λ (n : ℕ). FoundAt P (changed_at xs id f) n) (sym same)
        (found_became P P f keeps xs id (subst (λ (n : ℕ). FoundAt P xs n) same h))
    by_id (inr apart) = found_spared P f xs id other apart h

-- ---- more of them

get_more : {X : Type 0} (P : X → Type 0) (xs ys : List X) (place : ℕ) → IsSomeAnd (slice_get xs place) P
    → IsSomeAnd (slice_get (xs ++ ys) place) P
get_more P [] ys place h = absurd h
get_more P (x ∷ xs) ys zero h = h
get_more P (x ∷ xs) ys (suc place) h = get_more P xs ys place h

pub found_more : {X : Type 0} (P : X → Type 0) (xs ys : List X) (id : ℕ) → FoundAt P xs id → FoundAt P (xs ++ ys) id
found_more P xs ys zero h = absurd h
found_more P xs ys (suc place) h = get_more P xs ys place h

-- ---- if there is one

abbrev pub IfFoundAt : {X : Type 0} → (X → Type 0) → List X → ℕ → Type 0
IfFoundAt P xs id = IfSome (at_id xs id) P

none_changed : {X : Type 0} (f : X → X) (xs : List X) (id : ℕ) → at_id xs id ≡ None → changed_at xs id f ≡ xs
none_changed f xs id none = ap (λ (found : Option _). put_at xs id (option_map f found)) none

pub if_found_changed : {X : Type 0} (P : X → Type 0) (f : X → X) → ((x : X) → P x → P (f x)) → (xs : List X)
    → (id other : ℕ) → IfFoundAt P xs other → IfFoundAt P (changed_at xs id f) other
if_found_changed P f keeps xs id other h = by_id (same_or_not other id)
  where
    by_found : (found : Option _) → at_id xs id ≡ found → IfFoundAt P xs id → IfFoundAt P (changed_at xs id f) id
    by_found None none h = subst (λ (l : List _). IfFoundAt P l id) (sym (none_changed f xs id none)) h
    by_found (Some x) there h = subst (λ found. IfSome found P) (sym (at_same f xs id x there))
        (keeps x (subst (λ found. IfSome found P) there h))

    by_id : (other ≡ id) ⊎ (other ≡ id → ⊥) → IfFoundAt P (changed_at xs id f) other
    by_id (inl same) = subst (λ (n : ℕ). IfFoundAt P (changed_at xs id f) n) (sym same)
        (by_found (at_id xs id) refl (subst (λ (n : ℕ). IfFoundAt P xs n) same h))
    by_id (inr apart) = subst (λ found. IfSome found P) (sym (at_spared f xs id other apart)) h

if_get_more : {X : Type 0} (P : X → Type 0) (xs : List X) (x : X) (place : ℕ) → P x → IfSome (slice_get xs place) P
    → IfSome (slice_get (xs ++ x ∷ []) place) P
if_get_more P [] x zero new h = new
if_get_more P [] x (suc place) new h = tt
if_get_more P (y ∷ ys) x zero new h = h
if_get_more P (y ∷ ys) x (suc place) new h = if_get_more P ys x place new h

pub if_found_more : {X : Type 0} (P : X → Type 0) (xs : List X) (x : X) (id : ℕ) → P x → IfFoundAt P xs id
    → IfFoundAt P (xs ++ x ∷ []) id
if_found_more P xs x zero new h = tt
if_found_more P xs x (suc place) new h = if_get_more P xs x place new h
