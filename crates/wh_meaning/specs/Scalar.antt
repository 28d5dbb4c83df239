-- What a scalar means on a row.
--     Scalar            a bound expression: columns are places in the row
--     val               its value; None where any arithmetic part of it leaves 18 digits, whatever the other parts give
--     holds             whether it is TRUE
use Rattle.std.specs.Prelude.{ℕ, Bool, true, false, not, ◌&&◌, ◌||◌, ℤ, ◌+ℤ◌, ◌-ℤ◌, ◌*ℤ◌, neg_ℤ, unsigned_abs, nat_lt}
use Rattle.std.specs.Prelude.{if◌then◌else◌, Option, Some, None, unwrap_or, slice_get}
use Rattle.std.specs.declared.cmp.Ordering.{Ordering}
use Rattle.std.specs.Ordering.{is_eq, is_lt, is_gt}
use Rattle.wh_value.specs.Value.{Value, Number, Truth, Null, Row, value_cmp}
use Rattle.wh_value.specs.declared.comparison.Comparison.{Comparison}
use Rattle.wh_value.specs.declared.comparison.Comparison.TheVariants as comparisons

pub data Scalar : Type 0 where
  Const : Value → Scalar
  Column : ℕ → Scalar
  Neg : Scalar → Scalar
  Add : Scalar → Scalar → Scalar
  Sub : Scalar → Scalar → Scalar
  Mul : Scalar → Scalar → Scalar
  Compare : Comparison → Scalar → Scalar → Scalar
  And : Scalar → Scalar → Scalar
  Or : Scalar → Scalar → Scalar
  Not : Scalar → Scalar
  IsNull : Scalar → Scalar

-- ---- what operators do to values; a value of another type than the operator's counts as NULL

-- a number has at most 18 digits
abbrev pub ranged : ℤ → Option Value
ranged z = if nat_lt (unsigned_abs z) 1000000000000000000 then Some (Number z) else None

-- arithmetic with NULL gives NULL
abbrev pub computed : (ℤ → ℤ → ℤ) → Value → Value → Option Value
computed op (Number a) (Number b) = ranged (op a b)
computed op (Number a) _ = Some Null
computed op _ _ = Some Null

abbrev pub negated : Value → Option Value
negated (Number a) = ranged (neg_ℤ a)
negated _ = Some Null

abbrev pub is_null : Value → Bool
is_null Null = true
is_null _ = false

abbrev pub is_true : Value → Bool
is_true (Truth b) = b
is_true _ = false

abbrev pub is_false : Value → Bool
is_false (Truth b) = not b
is_false _ = false

-- whether two values that so compare meet a comparison
abbrev pub meets : Comparison → Ordering → Bool
meets comparisons.Equal order = is_eq order
meets comparisons.Unequal order = not (is_eq order)
meets comparisons.Less order = is_lt order
meets comparisons.LessOrEqual order = not (is_gt order)
meets comparisons.Greater order = is_gt order
meets comparisons.GreaterOrEqual order = not (is_lt order)

-- a comparison with NULL is NULL, NULL = NULL too
abbrev pub compared : Comparison → Value → Value → Value
compared c a b = if is_null a || is_null b then Null else Truth (meets c (value_cmp a b))

-- FALSE where a side is FALSE, else TRUE where both are TRUE, else NULL
abbrev pub conjoined : Value → Value → Value
conjoined a b = if is_false a || is_false b then Truth false else if is_true a && is_true b then Truth true else Null

-- TRUE where a side is TRUE, else FALSE where both are FALSE, else NULL
abbrev pub disjoined : Value → Value → Value
disjoined a b = if is_true a || is_true b then Truth true else if is_false a && is_false b then Truth false else Null

abbrev pub inverted : Value → Value
inverted (Truth b) = Truth (not b)
inverted _ = Null

-- ---- the value of a scalar: each part of it is evaluated

-- what is made of parts, where all of them are there
abbrev pub of_one : {A B : Type 0} → (A → Option B) → Option A → Option B
of_one f None = None
of_one f (Some a) = f a

abbrev pub of_two : {A B C : Type 0} → (A → B → Option C) → Option A → Option B → Option C
of_two f None b = None
of_two f (Some a) None = None
of_two f (Some a) (Some b) = f a b

unfoldable pub val : Scalar → Row → Option Value
val (Const v) row = Some v
val (Column place) row = Some (unwrap_or (slice_get row place) Null)
val (Neg a) row = of_one negated (val a row)
val (Add a b) row = of_two (computed (λ x y. x +ℤ y)) (val a row) (val b row)
val (Sub a b) row = of_two (computed (λ x y. x -ℤ y)) (val a row) (val b row)
val (Mul a b) row = of_two (computed (λ x y. x *ℤ y)) (val a row) (val b row)
val (Compare c a b) row = of_two (λ x y. Some (compared c x y)) (val a row) (val b row)
val (And a b) row = of_two (λ x y. Some (conjoined x y)) (val a row) (val b row)
val (Or a b) row = of_two (λ x y. Some (disjoined x y)) (val a row) (val b row)
val (Not a) row = of_one (λ x. Some (inverted x)) (val a row)
val (IsNull a) row = of_one (λ x. Some (Truth (is_null x))) (val a row)

abbrev pub gives_true : Option Value → Bool
gives_true None = false
gives_true (Some v) = is_true v

abbrev pub holds : Scalar → Row → Bool
holds e row = gives_true (val e row)

-- whether arithmetic stands in it
unfoldable pub has_arithmetic : Scalar → Bool
has_arithmetic (Const v) = false
has_arithmetic (Column place) = false
has_arithmetic (Neg a) = true
has_arithmetic (Add a b) = true
has_arithmetic (Sub a b) = true
has_arithmetic (Mul a b) = true
has_arithmetic (Compare c a b) = has_arithmetic a || has_arithmetic b
has_arithmetic (And a b) = has_arithmetic a || has_arithmetic b
has_arithmetic (Or a b) = has_arithmetic a || has_arithmetic b
has_arithmetic (Not a) = has_arithmetic a
has_arithmetic (IsNull a) = has_arithmetic a
