-- Lists that grow at their end, and what may be there.
--     some_is, none_told                 what an option is told to be
--     all_more, all_front, all_back      what holds of each
--     leads_then                         one more commit
--     length_changed_at                  a list with one element changed is as long
use Rattle.std.proofs.Common.{◌≡◌, ℕ, zero, suc, List, [], ◌∷◌, ◌++◌, length, Option, Some, None}
use Rattle.std.proofs.Common.{option_map, is_some, false, refl, sym, subst, ap}
use Rattle.std.specs.Prelude.{slice_set}
use Rattle.std.specs.List.{AllByRecursion}
use Rattle.wh_state.specs.State.{at_id, with_id, put_at, changed_at}
use Rattle.wh_state.specs.Stored.{Stored}
use Rattle.wh_state.specs.Commit.{Commit, Applies, applied, Leads}

pub some_is : {A : Type 0} (x y : A) → ◌≡◌ {A = Option A} (Some x) (Some y) → x ≡ y
some_is x y e = cc

pub none_told : {A : Type 0} (found : Option A) (x : A) → is_some found ≡ false → found ≡ Some x → ⊥
none_told None x none is = cc
none_told (Some y) x none is = cc

pub all_more : {X : Type 0} (P : X → Type 0) (xs : List X) (x : X) → AllByRecursion P xs → P x
    → AllByRecursion P (xs ++ x ∷ [])
all_more P [] x h here = (here, tt)
all_more P (y ∷ ys) x h here = (h.0, all_more P ys x h.1 here)

pub all_front : {X : Type 0} (P : X → Type 0) (xs ys : List X) → AllByRecursion P (xs ++ ys) → AllByRecursion P xs
all_front P [] ys h = tt
all_front P (x ∷ xs) ys h = (h.0, all_front P xs ys h.1)

pub all_back : {X : Type 0} (P : X → Type 0) (xs ys : List X) → AllByRecursion P (xs ++ ys) → AllByRecursion P ys
all_back P [] ys h = h
all_back P (x ∷ xs) ys h = all_back P xs ys h.1

pub leads_then : (old : Stored) (cs : List Commit) (mid : Stored) (c : Commit)
    → Leads old cs mid → Applies mid c → Leads old (cs ++ c ∷ []) (applied mid c)
leads_then old [] mid c is h = (subst (λ (s : Stored). Applies s c) (sym is) h, ap (λ (s : Stored). applied s c) is)
leads_then old (d ∷ ds) mid c leads h = (leads.0, leads_then (applied old d) ds mid c leads.1 h)

length_set : {X : Type 0} (xs : List X) (place : ℕ) (x : X) → length (slice_set xs place x) ≡ length xs
length_set [] place x = refl
length_set (y ∷ ys) zero x = refl
length_set (y ∷ ys) (suc place) x = ap suc (length_set ys place x)

length_with : {X : Type 0} (xs : List X) (id : ℕ) (x : X) → length (with_id xs id x) ≡ length xs
length_with xs zero x = refl
length_with xs (suc place) x = length_set xs place x

pub length_changed_at : {X : Type 0} (xs : List X) (id : ℕ) (f : X → X) → length (changed_at xs id f) ≡ length xs
length_changed_at xs id f = by_found (at_id xs id)
  where
    by_found : (found : Option _) → length (put_at xs id (option_map f found)) ≡ length xs
    by_found None = refl
    by_found (Some x) = length_with xs id (f x)
