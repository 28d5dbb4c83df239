-- A condition that may not be TRUE by the sides of columns isn't.
--     has_value    a scalar that may not fail has a value on every row
--     not_held     a condition isn't TRUE on rows within the sides
--     rejected     so it is rejected, where it has a value on each row
use Rattle.std.specs.Prelude.{◌≡◌, ℕ, Bool, true, false, not, ◌&&◌, ◌||◌, if◌then◌else◌, List, Option, Some, None}
use Rattle.std.specs.Prelude.{is_none, slice_get}
use Rattle.std.proofs.Common.{refl, sym, ap, ◌∙◌}
use Rattle.std.proofs.lemmas.Cmp.{upto}
use Rattle.std.specs.declared.cmp.Ordering.{Ordering}
use Rattle.std.specs.declared.cmp.Ordering.TheVariants.{Less, Equal, Greater}
use Rattle.std.specs.Ordering.{is_lt, is_gt, is_eq, ordering_reverse}
use Rattle.wh_value.specs.Value.{Value, Number, Truth, Text, Null, Row, value_cmp}
use Rattle.wh_value.specs.Order.{value_total, value-IsAntisymmetric}
use Rattle.wh_value.specs.declared.comparison.Comparison.{Comparison}
use Rattle.wh_value.specs.declared.comparison.Comparison.TheVariants as comparisons
use Rattle.wh_meaning.specs.Scalar.{Scalar, Const, Column, Neg, Add, Sub, Mul, Compare, And, Or, Not, IsNull}
use Rattle.wh_meaning.specs.Scalar.{is_null, is_true, is_false, val, of_two, meets, compared, disjoined}
use Rattle.wh_meaning.specs.Scalar.{gives_true, holds}
use Rattle.wh_meaning.specs.Listing.{cell}
use Rattle.wh_moves.proofs.Plain.{IsThere, one_there, two_there, neither}
use Rattle.wh_moves.proofs.Matched.{both_hold, tied, unless}
use Rattle.wh_part.specs.Holding.{Sides, may_meet, constant_of, may_compare_within, may_compare_column, converse_of}
use Rattle.wh_part.specs.Holding.{may_compare, has_null, may_be_null, may_be, may_fail, may_hold}
use Rattle.wh_part.specs.Holding.{IsWithin, IsRejected, Rejects}

-- ---- the value order

lt_reverse : (o : Ordering) → is_lt (ordering_reverse o) ≡ is_gt o
lt_reverse Less = refl
lt_reverse Equal = refl
lt_reverse Greater = refl

pub lt_is : (a b : Value) → is_lt (value_cmp a b) ≡ is_gt (value_cmp b a)
lt_is a b = ap is_lt (value_total.antisymm a b) ∙ lt_reverse (value_cmp b a)

above_null : (a x : Value) → is_gt (value_cmp a x) ≡ false → is_null a ≡ true → is_null x ≡ true
above_null Null (Number z) e n = cc
above_null Null (Truth z) e n = cc
above_null Null (Text z) e n = cc
above_null Null Null e n = refl
above_null (Number z) x e n = cc
above_null (Truth z) x e n = cc
above_null (Text z) x e n = cc

tied_if : (o : Ordering) → is_lt o ≡ false → is_gt o ≡ false → is_eq o ≡ true
tied_if Less p q = cc
tied_if Equal p q = refl
tied_if Greater p q = cc

-- ---- a value between the sides of its column

clash : (a d : Bool) → a ≡ false → d ≡ false → not a && not d ≡ false → ⊥
clash true d p q e = cc
clash false true p q e = cc
clash false false p q e = cc

un : (t : Bool) → not t ≡ true → t ≡ false
un true e = cc
un false e = refl

both : (a d : Bool) → not (a && d) ≡ false → (a ≡ true) × (d ≡ true)
both true true e = (refl, refl)
both true false e = cc
both false d e = cc

module _ (b : Sides) (x v : Value) (low : is_gt (value_cmp b.0 x) ≡ false)
    (high : is_gt (value_cmp x b.1) ≡ false) where
  equal_not_met : may_meet b comparisons.Equal v ≡ false → is_eq (value_cmp x v) ≡ false
  equal_not_met e = unless (is_eq (value_cmp x v)) (λ t.
      let same : x ≡ v = value-IsAntisymmetric x v (tied _ t) in
      let a : is_gt (value_cmp b.0 v) ≡ false = ap (λ y. is_gt (value_cmp b.0 y)) (sym same) ∙ low in
      let d : is_gt (value_cmp v b.1) ≡ false = ap (λ y. is_gt (value_cmp y b.1)) (sym same) ∙ high in
      clash (is_gt (value_cmp b.0 v)) (is_gt (value_cmp v b.1)) a d e)

  -- the sides are the value, so there is nothing else between them
  all_equal : may_meet b comparisons.Unequal v ≡ false → is_eq (value_cmp x v) ≡ true
  all_equal e =
      let h = both (is_eq (value_cmp b.0 v)) (is_eq (value_cmp b.1 v)) e in
      let least : b.0 ≡ v = value-IsAntisymmetric b.0 v (tied _ h.0) in
      let greatest : b.1 ≡ v = value-IsAntisymmetric b.1 v (tied _ h.1) in
      tied_if (value_cmp x v)
      (lt_is x v ∙ ap (λ y. is_gt (value_cmp y x)) (sym least) ∙ low)
      (ap (λ y. is_gt (value_cmp x y)) (sym greatest) ∙ high)

  not_met : (c : Comparison) → may_meet b c v ≡ false → meets c (value_cmp x v) ≡ false
  not_met comparisons.Equal e = equal_not_met e
  not_met comparisons.Unequal e = ap not (all_equal e)
  not_met comparisons.Less e = lt_is x v ∙ upto value_total v b.0 x (sym (lt_is b.0 v) ∙ e) low
  not_met comparisons.LessOrEqual e = unless (not (is_gt (value_cmp x v))) (λ t.
      let a : is_gt (value_cmp b.0 v) ≡ false = upto value_total b.0 x v low (un _ t) in cc)
  not_met comparisons.Greater e = upto value_total x b.1 v high (sym (lt_is v b.1) ∙ e)
  not_met comparisons.GreaterOrEqual e = unless (not (is_lt (value_cmp x v))) (λ t.
      let a : is_gt (value_cmp v b.1) ≡ false = upto value_total v x b.1 (sym (lt_is x v) ∙ un _ t) high in cc)

-- ---- comparisons and IS NULL

compares : (nx nv nb m mt : Bool) → not nv && (not nb && m) ≡ false → (nb ≡ true → nx ≡ true)
    → (m ≡ false → mt ≡ false) → is_true (if nx || nv then Null else Truth mt) ≡ false
compares true nv nb m mt e f g = refl
compares false true nb m mt e f g = refl
compares false false true m mt e f g = cc (f refl)
compares false false false m mt e f g = g e

not_compared : (c : Comparison) (found : Option Sides) (x v : Value)
    → ((b : Sides) → found ≡ Some b → is_gt (value_cmp b.0 x) ≡ false)
    → ((b : Sides) → found ≡ Some b → is_gt (value_cmp x b.1) ≡ false)
    → may_compare_within found c (Some v) ≡ false → is_true (compared c x v) ≡ false
not_compared c None x v low high e = cc
not_compared c (Some b) x v low high e =
    compares (is_null x) (is_null v) (is_null b.0) (may_meet b c v) (meets c (value_cmp x v)) e
    (above_null b.0 x (low b refl)) (not_met b x v (low b refl) (high b refl) c)

meets-converse : (c : Comparison) (o : Ordering) → meets c (ordering_reverse o) ≡ meets (converse_of c) o
meets-converse comparisons.Equal Less = refl
meets-converse comparisons.Equal Equal = refl
meets-converse comparisons.Equal Greater = refl
meets-converse comparisons.Unequal Less = refl
meets-converse comparisons.Unequal Equal = refl
meets-converse comparisons.Unequal Greater = refl
meets-converse comparisons.Less Less = refl
meets-converse comparisons.Less Equal = refl
meets-converse comparisons.Less Greater = refl
meets-converse comparisons.LessOrEqual Less = refl
meets-converse comparisons.LessOrEqual Equal = refl
meets-converse comparisons.LessOrEqual Greater = refl
meets-converse comparisons.Greater Less = refl
meets-converse comparisons.Greater Equal = refl
meets-converse comparisons.Greater Greater = refl
meets-converse comparisons.GreaterOrEqual Less = refl
meets-converse comparisons.GreaterOrEqual Equal = refl
meets-converse comparisons.GreaterOrEqual Greater = refl

null_either : (m n t : Bool) → is_true (if m || n then Null else Truth t) ≡ is_true (if n || m then Null else Truth t)
null_either true true t = refl
null_either true false t = refl
null_either false true t = refl
null_either false false t = refl

compared-converse : (c : Comparison) (v x : Value)
    → is_true (compared c v x) ≡ is_true (compared (converse_of c) x v)
compared-converse c v x =
    ap (λ t. is_true (if is_null v || is_null x then Null else Truth t))
    (ap (meets c) (value_total.antisymm v x) ∙ meets-converse c (value_cmp x v))
    ∙ null_either (is_null v) (is_null x) (meets (converse_of c) (value_cmp x v))

holds-converse : (c : Comparison) (a b : Option Value)
    → gives_true (of_two (λ x y. Some (compared c x y)) a b)
    ≡ gives_true (of_two (λ x y. Some (compared (converse_of c) x y)) b a)
holds-converse c None None = refl
holds-converse c None (Some x) = refl
holds-converse c (Some v) None = refl
holds-converse c (Some v) (Some x) = compared-converse c v x

not_null : (found : Option Sides) (x : Value) → ((b : Sides) → found ≡ Some b → is_gt (value_cmp x b.1) ≡ false)
    → has_null found ≡ false → is_null x ≡ false
not_null None x high e = cc
not_null (Some b) x high e = unless (is_null x) (λ n. let up = above_null x b.1 (high b refl) n in cc)

-- ---- AND and OR

both_false : (a b : Bool) → a ≡ false → b ≡ false → a || b ≡ false
both_false true b p q = cc
both_false false b p q = q

one_fails : (a b : Bool) → a && b ≡ false → (a ≡ false → ⊥) → (b ≡ false → ⊥) → ⊥
one_fails true b e f g = g e
one_fails false b e f g = f refl

untrue_or : (t : Bool) → is_true (if t then Truth false else Null) ≡ false
untrue_or true = refl
untrue_or false = refl

neither_true : (v w : Value) → is_true v ≡ false → is_true w ≡ false → is_true (disjoined v w) ≡ false
neither_true v w a b =
    ap (λ t. is_true (if t then Truth true else if is_false v && is_false w then Truth false else Null))
    (both_false (is_true v) (is_true w) a b)
    ∙ untrue_or (is_false v && is_false w)

neither_holds : (a b : Option Value) → gives_true a ≡ false → gives_true b ≡ false
    → gives_true (of_two (λ x y. Some (disjoined x y)) a b) ≡ false
neither_holds None b p q = refl
neither_holds (Some v) None p q = refl
neither_holds (Some v) (Some w) p q = neither_true v w p q

-- ---- constants

constant_value : (x : Scalar) (row : Row) (v : Value) → constant_of x ≡ Some v → val x row ≡ Some v
unfolding val
constant_value (Const w) row v e = e
constant_value (Neg (Const w)) row v e = e
constant_value (Neg (Column place)) row v e = cc
constant_value (Neg (Neg y)) row v e = cc
constant_value (Neg (Add y z)) row v e = cc
constant_value (Neg (Sub y z)) row v e = cc
constant_value (Neg (Mul y z)) row v e = cc
constant_value (Neg (Compare c y z)) row v e = cc
constant_value (Neg (And y z)) row v e = cc
constant_value (Neg (Or y z)) row v e = cc
constant_value (Neg (Not y)) row v e = cc
constant_value (Neg (IsNull y)) row v e = cc
constant_value (Column place) row v e = cc
constant_value (Add y z) row v e = cc
constant_value (Sub y z) row v e = cc
constant_value (Mul y z) row v e = cc
constant_value (Compare c y z) row v e = cc
constant_value (And y z) row v e = cc
constant_value (Or y z) row v e = cc
constant_value (Not y) row v e = cc
constant_value (IsNull y) row v e = cc

there : (known found : Option Value) → ((v : Value) → known ≡ Some v → found ≡ Some v) → is_none known ≡ false
    → IsThere found
there None found same e = cc
there (Some v) None same e = let s = same v refl in cc
there (Some v) (Some w) same e = tt

has_value : (e : Scalar) (row : Row) → may_fail e ≡ false → IsThere (val e row)
unfolding val may_fail
has_value (Const v) row none = tt
has_value (Column place) row none = tt
has_value (Neg a) row none = there (constant_of (Neg a)) (val (Neg a) row) (constant_value (Neg a) row) none
has_value (Add a b) row none = cc
has_value (Sub a b) row none = cc
has_value (Mul a b) row none = cc
has_value (Compare c a b) row none = let h = neither (may_fail a) (may_fail b) none in
    two_there _ (val a row) (val b row) (has_value a row h.0) (has_value b row h.1)
has_value (And a b) row none = let h = neither (may_fail a) (may_fail b) none in
    two_there _ (val a row) (val b row) (has_value a row h.0) (has_value b row h.1)
has_value (Or a b) row none = let h = neither (may_fail a) (may_fail b) none in
    two_there _ (val a row) (val b row) (has_value a row h.0) (has_value b row h.1)
has_value (Not a) row none = one_there _ (val a row) (has_value a row none)
has_value (IsNull a) row none = one_there _ (val a row) (has_value a row none)

-- ---- conditions

module _ (columns : List Sides) (row : Row) (within : IsWithin columns row) where
  at_column : (place : ℕ) (c : Comparison) (y : Scalar) (known : Option Value)
      → ((v : Value) → known ≡ Some v → val y row ≡ Some v)
      → may_compare_within (slice_get columns place) c known ≡ false → holds (Compare c (Column place) y) row ≡ false
  unfolding val
  at_column place c y None same e = cc
  at_column place c y (Some v) same e =
      ap (λ w. gives_true (of_two (λ a b. Some (compared c a b)) (Some (cell row place)) w)) (same v refl)
      ∙ not_compared c (slice_get columns place) (cell row place) v (within.least place) (within.greatest place) e

  column_held : (c : Comparison) (x y : Scalar) → may_compare_column columns c x y ≡ false
      → holds (Compare c x y) row ≡ false
  column_held c (Column place) y e = at_column place c y (constant_of y) (constant_value y row) e
  column_held c (Const v) y e = cc
  column_held c (Neg x) y e = cc
  column_held c (Add x z) y e = cc
  column_held c (Sub x z) y e = cc
  column_held c (Mul x z) y e = cc
  column_held c (Compare d x z) y e = cc
  column_held c (And x z) y e = cc
  column_held c (Or x z) y e = cc
  column_held c (Not x) y e = cc
  column_held c (IsNull x) y e = cc

  sides_held : (c : Comparison) (x y : Scalar) → may_compare columns c x y ≡ false → holds (Compare c x y) row ≡ false
  unfolding val
  sides_held c x y e = unless (holds (Compare c x y) row) (λ t.
      one_fails (may_compare_column columns c x y) (may_compare_column columns (converse_of c) y x) e
      (λ f. let n = column_held c x y f in cc)
      (λ f. let n = column_held (converse_of c) y x f in let r = holds-converse c (val x row) (val y row) in cc))

  null_held : (x : Scalar) → may_be_null columns x ≡ false → holds (IsNull x) row ≡ false
  unfolding val
  null_held (Column place) e = not_null (slice_get columns place) (cell row place) (within.greatest place) e
  null_held (Const v) e = cc
  null_held (Neg y) e = cc
  null_held (Add y z) e = cc
  null_held (Sub y z) e = cc
  null_held (Mul y z) e = cc
  null_held (Compare d y z) e = cc
  null_held (And y z) e = cc
  null_held (Or y z) e = cc
  null_held (Not y) e = cc
  null_held (IsNull y) e = cc

  pub not_held : (p : Scalar) → may_be columns p ≡ false → holds p row ≡ false
  unfolding val may_be
  not_held (Const v) e = cc
  not_held (Column place) e = cc
  not_held (Neg a) e = cc
  not_held (Add a b) e = cc
  not_held (Sub a b) e = cc
  not_held (Mul a b) e = cc
  not_held (Compare c a b) e = sides_held c a b e
  not_held (And a b) e = unless (holds (And a b) row) (λ t.
      let h = both_hold (val a row) (val b row) t in
      one_fails (may_be columns a) (may_be columns b) e
      (λ f. let n = not_held a f in let y = h.0 in cc) (λ f. let n = not_held b f in let y = h.1 in cc))
  not_held (Or a b) e = let h = neither (may_be columns a) (may_be columns b) e in
      neither_holds (val a row) (val b row) (not_held a h.0) (not_held b h.1)
  not_held (Not a) e = cc
  not_held (IsNull a) e = null_held a e

is_rejected : (found : Option Value) → IsThere found → gives_true found ≡ false → IsRejected found
is_rejected None there none = absurd there
is_rejected (Some v) there none = none

pub rejected : (columns : List Sides) (row : Row) (p : Scalar) → IsWithin columns row → may_hold columns p ≡ false
    → Rejects p row
rejected columns row p within none =
    let h = neither (may_fail p) (may_be columns p) none in
    is_rejected (val p row) (has_value p row h.0) (not_held columns row within p h.1)
