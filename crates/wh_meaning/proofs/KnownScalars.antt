-- Known values of scalars, worked by hand.
--     known_and, known_or, known_not, known_is_null     three-valued logic, row by row
--     known_equal, known_order                          comparisons; each one with NULL is NULL, NULL = NULL too
--     known_arithmetic, known_limits                    numbers, NULL among them, and the limit of 18 digits
--     known_undefined                                   what has a part without a value has none,
--                                                       also where a side would decide
--     known_columns                                     columns of a row
use Rattle.std.specs.Prelude.{◌≡◌, ℕ, Bool, true, false, List, [], ◌∷◌, ℤ, pos, neg_ℤ, Option, Some, None, refl}
use Rattle.wh_value.specs.Value.{Value, Number, Truth, Text, Null}
use Rattle.wh_value.specs.declared.comparison.Comparison.{Comparison}
use Rattle.wh_value.specs.declared.comparison.Comparison.TheVariants as comparisons
use Rattle.wh_meaning.specs.Scalar.{Scalar, Const, Column, Neg, Add, Sub, Mul, Compare, And, Or, Not, IsNull, val}

abbrev yes : Scalar
yes = Const (Truth true)

abbrev no : Scalar
no = Const (Truth false)

abbrev null : Scalar
null = Const Null

abbrev number : ℕ → Scalar
number n = Const (Number (pos n))

abbrev minus : ℕ → Scalar
minus n = Const (Number (neg_ℤ (pos n)))

abbrev text : List ℕ → Scalar
text bytes = Const (Text bytes)

-- on a row without columns
abbrev alone : Scalar → Option Value
alone e = val e []

abbrev Gives : Scalar → Value → Type 0
Gives e v = alone e ≡ Some v

abbrev GivesNothing : Scalar → Type 0
GivesNothing e = alone e ≡ None

pub known_and : Gives (And no no) (Truth false) × Gives (And no null) (Truth false) × Gives (And no yes) (Truth false)
    × Gives (And null no) (Truth false) × Gives (And null null) Null × Gives (And null yes) Null
    × Gives (And yes no) (Truth false) × Gives (And yes null) Null × Gives (And yes yes) (Truth true)
unfolding val
known_and = (refl, refl, refl, refl, refl, refl, refl, refl, refl)

pub known_or : Gives (Or no no) (Truth false) × Gives (Or no null) Null × Gives (Or no yes) (Truth true)
    × Gives (Or null no) Null × Gives (Or null null) Null × Gives (Or null yes) (Truth true)
    × Gives (Or yes no) (Truth true) × Gives (Or yes null) (Truth true) × Gives (Or yes yes) (Truth true)
unfolding val
known_or = (refl, refl, refl, refl, refl, refl, refl, refl, refl)

pub known_not : Gives (Not no) (Truth true) × Gives (Not null) Null × Gives (Not yes) (Truth false)
unfolding val
known_not = (refl, refl, refl)

pub known_is_null : Gives (IsNull no) (Truth false) × Gives (IsNull null) (Truth true)
    × Gives (IsNull yes) (Truth false)
    × Gives (IsNull (number 0)) (Truth false) × Gives (IsNull (text [])) (Truth false)
unfolding val
known_is_null = (refl, refl, refl, refl, refl)

pub known_equal : Gives (Compare comparisons.Equal null null) Null × Gives (Compare comparisons.Unequal null null) Null
    × Gives (Compare comparisons.Equal (number 1) null) Null × Gives (Compare comparisons.Less null (number 1)) Null
    × Gives (Compare comparisons.Equal (number 1) (number 1)) (Truth true)
    × Gives (Compare comparisons.Equal (number 1) (number 2)) (Truth false)
    × Gives (Compare comparisons.Unequal (number 1) (number 2)) (Truth true)
unfolding val
known_equal = (refl, refl, refl, refl, refl, refl, refl)

-- numbers by size, FALSE before TRUE, texts by bytes: a text goes before a longer one that begins so
pub known_order : Gives (Compare comparisons.Less (minus 2) (minus 1)) (Truth true)
    × Gives (Compare comparisons.Less (number 9) (number 10)) (Truth true)
    × Gives (Compare comparisons.LessOrEqual (number 10) (number 9)) (Truth false)
    × Gives (Compare comparisons.GreaterOrEqual (number 9) (number 9)) (Truth true)
    × Gives (Compare comparisons.Less no yes) (Truth true)
    × Gives (Compare comparisons.Greater (text (66 ∷ [])) (text (65 ∷ 66 ∷ []))) (Truth true)
    × Gives (Compare comparisons.Less (text (65 ∷ [])) (text (65 ∷ 66 ∷ []))) (Truth true)
unfolding val
known_order = (refl, refl, refl, refl, refl, refl, refl)

pub known_arithmetic : Gives (Add (number 2) (number 3)) (Number (pos 5))
    × Gives (Sub (number 2) (number 3)) (Number (neg_ℤ (pos 1)))
    × Gives (Mul (minus 2) (number 3)) (Number (neg_ℤ (pos 6))) × Gives (Neg (number 7)) (Number (neg_ℤ (pos 7)))
    × Gives (Add null (number 1)) Null × Gives (Sub (number 1) null) Null × Gives (Mul null null) Null
    × Gives (Neg null) Null
unfolding val
known_arithmetic = (refl, refl, refl, refl, refl, refl, refl, refl)

-- 18 digits at most, of either sign
pub known_limits : Gives (Add (number 999999999999999998) (number 1)) (Number (pos 999999999999999999))
    × GivesNothing (Add (number 999999999999999999) (number 1))
    × Gives (Sub (minus 999999999999999998) (number 1)) (Number (neg_ℤ (pos 999999999999999999)))
    × GivesNothing (Sub (minus 999999999999999999) (number 1))
    × GivesNothing (Mul (number 1000000000) (number 1000000000))
    × GivesNothing (Neg (number 1000000000000000000))
    × GivesNothing (Sub (Add (number 999999999999999999) (number 1)) (number 1))
unfolding val
known_limits = (refl, refl, refl, refl, refl, refl, refl)

abbrev too_great : Scalar
too_great = Compare comparisons.Greater (Add (number 999999999999999999) (number 1)) (number 0)

-- no side spares the other, and no NULL either
pub known_undefined : GivesNothing (And no too_great) × GivesNothing (And too_great no)
    × GivesNothing (Or yes too_great) × GivesNothing (Or too_great yes)
    × GivesNothing (Not too_great) × GivesNothing (IsNull too_great)
    × GivesNothing (Compare comparisons.Equal null too_great)
    × GivesNothing (Add null (Add (number 999999999999999999) (number 1)))
unfolding val
known_undefined = (refl, refl, refl, refl, refl, refl, refl, refl)

pub known_columns : (val (Column 1) (Number (pos 7) ∷ Truth true ∷ []) ≡ Some (Truth true))
    × (val (Column 2) (Number (pos 7) ∷ Truth true ∷ []) ≡ Some Null)
unfolding val
known_columns = (refl, refl)
