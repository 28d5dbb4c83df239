-- The types of items over groups.
--     AllUnder            types that are under others, one by one
--     regrouped_under     an item over groups has the type that it had
use Rattle.std.proofs.Common.{◌≡◌, ℕ, zero, suc, ◌+◌, ◌-◌, ◌<◌, ◌≤◌, Bool, true, false, cond, List, [], ◌∷◌, ◌++◌, map}
use Rattle.std.proofs.Common.{length, Option, Some, None, option_map, refl, sym, ap, subst, ◌∙◌, arith}
use Rattle.std.specs.Prelude.{slice_get, not, nat_lt}
use Rattle.std.specs.List.{prefix_len, position}
use Rattle.std.proofs.lemmas.Bool.Decides.{nat_tests}
use Rattle.wh_value.specs.Value.{Row}
use Rattle.wh_value.specs.Column.{ColumnType, NumberType}
use Rattle.wh_meaning.specs.Scalar.{Scalar, Const, Column, Neg, Add, Sub, Mul, Compare, And, Or, Not, IsNull}
use Rattle.wh_meaning.specs.Query.{Call}
use Rattle.wh_naming.specs.Grouping.{is_same, key_or, call_column, both, regrouped}
use Rattle.wh_naming.specs.Select.{scalar_or, regrouped_all}
use Rattle.wh_machine.proofs.ValueTypes.{FitsTypes, type_or, type_at, head_type}
use Rattle.wh_machine.proofs.TypedLaws.{Under, under_fits, under_same, get_behind}
use Rattle.wh_machine.proofs.QueryRows.{number_types}
use Rattle.wh_machine.proofs.SameHeads.{same_head}

abbrev pub AllUnder : List (Option ColumnType) → List (Option ColumnType) → Type 0
AllUnder [] [] = Unit {0}
AllUnder [] (u ∷ us) = ⊥
AllUnder (t ∷ ts) [] = ⊥
AllUnder (t ∷ ts) (u ∷ us) = Under t u × AllUnder ts us

pub all_under_fits : (ts us : List (Option ColumnType)) → AllUnder ts us → (row : Row) → FitsTypes ts row
    → FitsTypes us row
all_under_fits [] [] under row h = h
all_under_fits [] (u ∷ us) under row h = absurd under
all_under_fits (t ∷ ts) [] under row h = absurd under
all_under_fits (t ∷ ts) (u ∷ us) under [] h = absurd h
all_under_fits (t ∷ ts) (u ∷ us) under (v ∷ vs) h = (under_fits t u under.0 v h.0, all_under_fits ts us under.1 vs h.1)

pub all_under_append : (ts us xs ys : List (Option ColumnType)) → AllUnder ts us → AllUnder xs ys
    → AllUnder (ts ++ xs) (us ++ ys)
all_under_append [] [] xs ys h k = k
all_under_append [] (u ∷ us) xs ys h k = absurd h
all_under_append (t ∷ ts) [] xs ys h k = absurd h
all_under_append (t ∷ ts) (u ∷ us) xs ys h k = (h.0, all_under_append ts us xs ys h.1 k)

pub under_through : (a b c : Option ColumnType) → Under a b → Under b c → Under a c
under_through None b c h k = tt
under_through (Some t) b c h k = subst (λ (x : Option ColumnType). Under x c) (sym h) k

pub all_under_through : (ts us xs : List (Option ColumnType)) → AllUnder ts us → AllUnder us xs → AllUnder ts xs
all_under_through [] [] xs h k = k
all_under_through [] (u ∷ us) xs h k = absurd h
all_under_through (t ∷ ts) [] xs h k = absurd h
all_under_through (t ∷ ts) (u ∷ us) [] h k = absurd k
all_under_through (t ∷ ts) (u ∷ us) (x ∷ xs) h k = (under_through t u x h.0 k.0, all_under_through ts us xs h.1 k.1)

-- ---- keys

first_found : (test : Scalar → Bool) (xs : List Scalar) → prefix_len (λ x. not (test x)) xs < length xs
    → (x : Scalar) × ((slice_get xs (prefix_len (λ x. not (test x)) xs) ≡ Some x) × (test x ≡ true))
first_found test [] h = absurd (omega arith)
first_found test (x ∷ xs) h = by_test (test x) refl h (first_found test xs)
  where
    k : ℕ
    k = prefix_len (λ x. not (test x)) xs

    by_test : (b : Bool) → test x ≡ b → cond (not b) (1 + k) 0 < suc (length xs)
        → (k < length xs → (x : Scalar) × ((slice_get xs k ≡ Some x) × (test x ≡ true)))
        → (y : Scalar) × ((slice_get (x ∷ xs) (cond (not b) (1 + k) 0) ≡ Some y) × (test y ≡ true))
    by_test true is h rest = (x, (refl, is))
    by_test false is h rest =
        let found = rest (omega (arith, h)) in
        let behind : 1 + k ≡ suc k = omega arith in
        (found.0, (ap (slice_get (x ∷ xs)) behind ∙ found.1.0, found.1.1))

position_found : (test : Scalar → Bool) (xs : List Scalar) (place : ℕ) → position test xs ≡ Some place
    → (x : Scalar) × ((slice_get xs place ≡ Some x) × (test x ≡ true))
position_found test xs place is = by_test (nat_lt k (length xs)) refl is
  where
    k : ℕ
    k = prefix_len (λ x. not (test x)) xs

    by_test : (b : Bool) → nat_lt k (length xs) ≡ b → cond b (Some k) None ≡ Some place
        → (x : Scalar) × ((slice_get xs place ≡ Some x) × (test x ≡ true))
    by_test true less is =
        let same : k ≡ place = cc in
        let below : k < length xs = grind (arith, nat_tests) in
        subst (λ (n : ℕ). (x : Scalar) × ((slice_get xs n ≡ Some x) × (test x ≡ true))) same (first_found test xs below)
    by_test false less is = absurd cc

map_get_some : (f : Scalar → Option ColumnType) (xs : List Scalar) (place : ℕ) (x : Scalar) →
    slice_get xs place ≡ Some x
    → slice_get (map f xs) place ≡ Some (f x)
map_get_some f [] place x is = absurd cc
map_get_some f (y ∷ ys) zero x is = ap (option_map f) is
map_get_some f (y ∷ ys) (suc place) x is = map_get_some f ys place x is

front_get : (ts us : List (Option ColumnType)) (k : ℕ) (t : Option ColumnType) → slice_get ts k ≡ Some t
    → slice_get (ts ++ us) k ≡ Some t
front_get [] us k t is = absurd cc
front_get (x ∷ ts) us zero t is = is
front_get (x ∷ ts) us (suc k) t is = front_get ts us k t is

-- a call behind the keys
numbers_only : (calls : List Call) (k : ℕ) → type_at (number_types calls) k ≡ Some NumberType
numbers_only [] k = refl
numbers_only (c ∷ cs) zero = refl
numbers_only (c ∷ cs) (suc k) = numbers_only cs k

mapped_length : (f : Scalar → Option ColumnType) (xs : List Scalar) → length (map f xs) ≡ length xs
mapped_length f [] = refl
mapped_length f (x ∷ xs) = let rest = mapped_length f xs in omega (arith, rest)

module _ (types : ℕ → Option ColumnType) (width : ℕ)
    (beyond : (place k : ℕ) → place ≡ width + k → types place ≡ Some NumberType) (keys : List Scalar)
    (calls : List Call) where
  -- of the rows of groups
  abbrev pub group_types : List (Option ColumnType)
  group_types = map (head_type types) keys ++ number_types calls

  abbrev GroupedAs : Scalar → Scalar → Type 0
  GroupedAs s new = Under (head_type (type_at group_types) new) (head_type types s)

  key_under : (s : Scalar) (place : ℕ) → position (is_same s) keys ≡ Some place → GroupedAs s (Column place)
  key_under s place is =
      let found = position_found (is_same s) keys place is in
      let at : slice_get group_types place ≡ Some (head_type types found.0) =
      front_get (map (head_type types) keys) (number_types calls) place (head_type types found.0)
      (map_get_some (head_type types) keys place found.0 found.1.0) in
      let same : type_at group_types place ≡ head_type types s =
      ap type_or at ∙ sym (same_head types s found.0 found.1.1) in
      subst (λ (t : Option ColumnType). Under t (head_type types s)) (sym same) (under_same (head_type types s))

  key_or_under : (s : Scalar) (found : Option ℕ) → position (is_same s) keys ≡ found → (inner : Option Scalar)
      → ((new : Scalar) → inner ≡ Some new → GroupedAs s new) → (new : Scalar) → key_or found inner ≡ Some new
      → GroupedAs s new
  key_or_under s None is inner h new some = h new some
  key_or_under s (Some place) is inner h new some =
      let same : Column place ≡ new = cc in
      subst (λ (x : Scalar). GroupedAs s x) same (key_under s place is)

  call_under : (place : ℕ) (new : Scalar) → call_column (length keys) width place ≡ Some new
      → GroupedAs (Column place) new
  call_under place new is = by_test (nat_lt place width) refl is
    where
      by_test : (b : Bool) → nat_lt place width ≡ b
          → cond b None (Some (Column (length keys + (place - width)))) ≡ Some new
          → GroupedAs (Column place) new
      by_test true less is = absurd cc
      by_test false less is =
          let same : Column (length keys + (place - width)) ≡ new = cc in
          let behind : width ≤ place = grind (arith, nat_tests) in
          let here : types place ≡ Some NumberType = beyond place (place - width) (omega (arith, behind)) in
          let there : type_at group_types (length keys + (place - width)) ≡ Some NumberType =
          ap type_or (get_behind (map (head_type types) keys) (number_types calls) (length keys + (place - width))
          (place - width) (omega (arith, mapped_length (head_type types) keys)))
          ∙ numbers_only calls (place - width) in
          subst (λ (x : Scalar). GroupedAs (Column place) x) same
          (subst (λ (t : Option ColumnType). Under t (types place))
          (sym there) (sym here))

  one_under : (s : Scalar) (make : Scalar → Scalar) (found : Option Scalar)
      → ((a : Scalar) → GroupedAs s (make a)) → (new : Scalar) → option_map make found ≡ Some new → GroupedAs s new
  one_under s make None h new is = absurd cc
  one_under s make (Some a) h new is = let same : make a ≡ new = cc in subst (λ (x : Scalar). GroupedAs s x) same (h a)

  two_under : (s : Scalar) (make : Scalar → Scalar → Scalar) (a b : Option Scalar)
      → ((x y : Scalar) → GroupedAs s (make x y)) → (new : Scalar) → both make a b ≡ Some new → GroupedAs s new
  two_under s make None b h new is = absurd cc
  two_under s make (Some a) None h new is = absurd cc
  two_under s make (Some a) (Some b) h new is =
      let same : make a b ≡ new = cc in subst (λ (x : Scalar). GroupedAs s x) same (h a b)

  some_under : (s made : Scalar) → GroupedAs s made → (new : Scalar) → Some made ≡ Some new → GroupedAs s new
  some_under s made h new is = let same : made ≡ new = cc in subst (λ (x : Scalar). GroupedAs s x) same h

  regrouped_under : (s new : Scalar) → regrouped keys width s ≡ Some new → GroupedAs s new
  unfolding regrouped
  regrouped_under (Const v) = key_or_under (Const v) (position (is_same (Const v)) keys) refl _
      (some_under (Const v) (Const v) (under_same _))
  regrouped_under (Column place) = key_or_under (Column place) (position (is_same (Column place)) keys) refl _
      (call_under place)
  regrouped_under (Neg a) = key_or_under (Neg a) (position (is_same (Neg a)) keys) refl _
      (one_under (Neg a) Neg (regrouped keys width a) (λ x. refl))
  regrouped_under (Add a b) = key_or_under (Add a b) (position (is_same (Add a b)) keys) refl _
      (two_under (Add a b) Add (regrouped keys width a) (regrouped keys width b) (λ x y. refl))
  regrouped_under (Sub a b) = key_or_under (Sub a b) (position (is_same (Sub a b)) keys) refl _
      (two_under (Sub a b) Sub (regrouped keys width a) (regrouped keys width b) (λ x y. refl))
  regrouped_under (Mul a b) = key_or_under (Mul a b) (position (is_same (Mul a b)) keys) refl _
      (two_under (Mul a b) Mul (regrouped keys width a) (regrouped keys width b) (λ x y. refl))
  regrouped_under (Compare c a b) = key_or_under (Compare c a b) (position (is_same (Compare c a b)) keys) refl _
      (two_under (Compare c a b) (Compare c) (regrouped keys width a) (regrouped keys width b) (λ x y. refl))
  regrouped_under (And a b) = key_or_under (And a b) (position (is_same (And a b)) keys) refl _
      (two_under (And a b) And (regrouped keys width a) (regrouped keys width b) (λ x y. refl))
  regrouped_under (Or a b) = key_or_under (Or a b) (position (is_same (Or a b)) keys) refl _
      (two_under (Or a b) Or (regrouped keys width a) (regrouped keys width b) (λ x y. refl))
  regrouped_under (Not a) = key_or_under (Not a) (position (is_same (Not a)) keys) refl _
      (one_under (Not a) Not (regrouped keys width a) (λ x. refl))
  regrouped_under (IsNull a) = key_or_under (IsNull a) (position (is_same (IsNull a)) keys) refl _
      (one_under (IsNull a) IsNull (regrouped keys width a) (λ x. refl))

  or_under : (s : Scalar) (found : Option Scalar) → regrouped keys width s ≡ found → GroupedAs s (scalar_or found)
  or_under s None is = tt
  or_under s (Some new) is = regrouped_under s new is

  pub all_regrouped : (scalars : List Scalar)
      → AllUnder (map (head_type (type_at group_types)) (regrouped_all keys width scalars))
      (map (head_type types) scalars)
  all_regrouped [] = tt
  all_regrouped (s ∷ ss) = (or_under s (regrouped keys width s) refl, all_regrouped ss)
