-- Known partitions that may be passed over, worked by hand.
--     known_inside, known_nulls, known_null, known_single     a column compared with 4, 5, 7, 9 and 10: one from 5 to 9,
--                                                             one from 5 on with NULLs, one of NULLs, one of 5 alone
--     known_converse                                          4, 5, 7, 9 and 10 compared with a column
--     known_none                                              a column of which nothing is known; comparisons with NULL
--     known_is_null                                           which columns may hold NULL
--     known_both                                              AND and OR
--     known_minus                                             a minus sign before a constant, and before others
--     known_arithmetic                                        a condition that may have no value
use Rattle.std.specs.Prelude.{◌≡◌, ℕ, Bool, true, false, List, [], ◌∷◌, map, pos, negsuc, refl}
use Rattle.wh_value.specs.Value.{Value, Number, Truth, Null}
use Rattle.wh_value.specs.declared.comparison.Comparison.{Comparison}
use Rattle.wh_value.specs.declared.comparison.Comparison.TheVariants as comparisons
use Rattle.wh_meaning.specs.Scalar.{Scalar, Const, Column, Neg, Add, Compare, And, Or, IsNull}
use Rattle.wh_part.specs.Holding.{Sides, may_be, may_fail, may_hold}

abbrev number : ℕ → Value
number n = Number (pos n)

-- 5 to 9; 5 and greater ones, and NULLs; NULLs alone; 5 alone
abbrev known : List Sides
known = (number 5, number 9) ∷ (number 5, Null) ∷ (Null, Null) ∷ (number 5, number 5) ∷ []

abbrev answers : (Value → Scalar) → List Bool
answers condition = map (λ n. may_hold known (condition (number n))) (4 ∷ 5 ∷ 7 ∷ 9 ∷ 10 ∷ [])

abbrev compared_at : ℕ → Comparison → List Bool
compared_at place c = answers (λ v. Compare c (Column place) (Const v))

abbrev compared_from : Comparison → ℕ → List Bool
compared_from c place = answers (λ v. Compare c (Const v) (Column place))

abbrev all_of : Bool → List Bool
all_of b = b ∷ b ∷ b ∷ b ∷ b ∷ []

pub known_inside :
    (compared_at 0 comparisons.Equal ≡ false ∷ true ∷ true ∷ true ∷ false ∷ [])
    × (compared_at 0 comparisons.Unequal ≡ all_of true)
    × (compared_at 0 comparisons.Less ≡ false ∷ false ∷ true ∷ true ∷ true ∷ [])
    × (compared_at 0 comparisons.LessOrEqual ≡ false ∷ true ∷ true ∷ true ∷ true ∷ [])
    × (compared_at 0 comparisons.Greater ≡ true ∷ true ∷ true ∷ false ∷ false ∷ [])
    × (compared_at 0 comparisons.GreaterOrEqual ≡ true ∷ true ∷ true ∷ true ∷ false ∷ [])
unfolding may_be may_fail
known_inside = (refl, refl, refl, refl, refl, refl)

-- NULL is the greatest, so the greatest other value isn't known
pub known_nulls :
    (compared_at 1 comparisons.Equal ≡ false ∷ true ∷ true ∷ true ∷ true ∷ [])
    × (compared_at 1 comparisons.Unequal ≡ all_of true)
    × (compared_at 1 comparisons.Less ≡ false ∷ false ∷ true ∷ true ∷ true ∷ [])
    × (compared_at 1 comparisons.LessOrEqual ≡ false ∷ true ∷ true ∷ true ∷ true ∷ [])
    × (compared_at 1 comparisons.Greater ≡ all_of true)
    × (compared_at 1 comparisons.GreaterOrEqual ≡ all_of true)
unfolding may_be may_fail
known_nulls = (refl, refl, refl, refl, refl, refl)

pub known_null :
    (compared_at 2 comparisons.Equal ≡ all_of false)
    × (compared_at 2 comparisons.Unequal ≡ all_of false)
    × (compared_at 2 comparisons.Less ≡ all_of false)
    × (compared_at 2 comparisons.LessOrEqual ≡ all_of false)
    × (compared_at 2 comparisons.Greater ≡ all_of false)
    × (compared_at 2 comparisons.GreaterOrEqual ≡ all_of false)
unfolding may_be may_fail
known_null = (refl, refl, refl, refl, refl, refl)

pub known_single :
    (compared_at 3 comparisons.Equal ≡ false ∷ true ∷ false ∷ false ∷ false ∷ [])
    × (compared_at 3 comparisons.Unequal ≡ true ∷ false ∷ true ∷ true ∷ true ∷ [])
    × (compared_at 3 comparisons.Less ≡ false ∷ false ∷ true ∷ true ∷ true ∷ [])
    × (compared_at 3 comparisons.LessOrEqual ≡ false ∷ true ∷ true ∷ true ∷ true ∷ [])
    × (compared_at 3 comparisons.Greater ≡ true ∷ false ∷ false ∷ false ∷ false ∷ [])
    × (compared_at 3 comparisons.GreaterOrEqual ≡ true ∷ true ∷ false ∷ false ∷ false ∷ [])
unfolding may_be may_fail
known_single = (refl, refl, refl, refl, refl, refl)

-- 4 < K is K > 4
pub known_converse :
    (compared_from comparisons.Equal 0 ≡ false ∷ true ∷ true ∷ true ∷ false ∷ [])
    × (compared_from comparisons.Unequal 3 ≡ true ∷ false ∷ true ∷ true ∷ true ∷ [])
    × (compared_from comparisons.Less 0 ≡ true ∷ true ∷ true ∷ false ∷ false ∷ [])
    × (compared_from comparisons.LessOrEqual 0 ≡ true ∷ true ∷ true ∷ true ∷ false ∷ [])
    × (compared_from comparisons.Greater 0 ≡ false ∷ false ∷ true ∷ true ∷ true ∷ [])
    × (compared_from comparisons.GreaterOrEqual 0 ≡ false ∷ true ∷ true ∷ true ∷ true ∷ [])
unfolding may_be may_fail
known_converse = (refl, refl, refl, refl, refl, refl)

pub known_none :
    (compared_at 4 comparisons.Equal ≡ all_of true)
    × (compared_from comparisons.Less 4 ≡ all_of true)
    × (may_hold known (Compare comparisons.Equal (Column 0) (Const Null)) ≡ false)
    × (may_hold known (Compare comparisons.Unequal (Column 1) (Const Null)) ≡ false)
    × (may_hold known (Compare comparisons.Equal (Const Null) (Column 2)) ≡ false)
unfolding may_be may_fail
known_none = (refl, refl, refl, refl, refl)

pub known_is_null :
    map (λ place. may_hold known (IsNull (Column place))) (0 ∷ 1 ∷ 2 ∷ 3 ∷ 4 ∷ [])
    ≡ false ∷ true ∷ true ∷ false ∷ true ∷ []
unfolding may_be may_fail
known_is_null = refl

-- of the column from 5 to 9
abbrev at : ℕ → Scalar
at n = Compare comparisons.Equal (Column 0) (Const (number n))

pub known_both :
    (map (λ n. may_hold known (And (at n) (at 7))) (4 ∷ 5 ∷ []) ≡ false ∷ true ∷ [])
    × (map (λ n. may_hold known (And (at 7) (at n))) (4 ∷ 5 ∷ []) ≡ false ∷ true ∷ [])
    × (map (λ n. may_hold known (Or (at n) (at 10))) (4 ∷ 5 ∷ []) ≡ false ∷ true ∷ [])
    × (map (λ n. may_hold known (Or (at 10) (at n))) (4 ∷ 5 ∷ []) ≡ false ∷ true ∷ [])
unfolding may_be may_fail
known_both = (refl, refl, refl, refl)

-- a column from -9 to -5, compared with -4, -5, -7, -9 and -10; then a minus sign before a column, before another one,
-- before a number of 19 digits and one of 18, before NULL and before a truth
abbrev below : List Sides
below = (Number (negsuc 8), Number (negsuc 4)) ∷ []

abbrev minus : (Scalar → Scalar) → List Bool
minus condition = map (λ n. may_hold below (condition (Neg (Const (number n))))) (4 ∷ 5 ∷ 7 ∷ 9 ∷ 10 ∷ [])

pub known_minus :
    (minus (Compare comparisons.Equal (Column 0)) ≡ false ∷ true ∷ true ∷ true ∷ false ∷ [])
    × (minus (Compare comparisons.Less (Column 0)) ≡ true ∷ true ∷ true ∷ false ∷ false ∷ [])
    × (minus (λ y. Compare comparisons.Less y (Column 0)) ≡ false ∷ false ∷ true ∷ true ∷ true ∷ [])
    × (may_hold known (Compare comparisons.Equal (Column 0) (Neg (Const (number 1)))) ≡ false)
    × (may_hold known (Compare comparisons.Equal (Column 0) (Neg (Const (Number (negsuc 6))))) ≡ true)
    × (may_hold known (Compare comparisons.Equal (Neg (Column 0)) (Const (number 1))) ≡ true)
    × (may_hold known (And (at 4) (Compare comparisons.Equal (Neg (Column 0)) (Const (number 1)))) ≡ true)
    × (may_hold known (And (at 4) (IsNull (Neg (Neg (Const (number 1)))))) ≡ true)
    × (may_hold known (Compare comparisons.Equal (Column 0) (Neg (Const (number 1000000000000000000)))) ≡ true)
    × (may_hold known (Compare comparisons.Equal (Column 0) (Neg (Const (number 999999999999999999)))) ≡ false)
    × (may_hold known (Compare comparisons.Equal (Column 0) (Neg (Const Null))) ≡ false)
    × (may_hold known (Compare comparisons.Equal (Column 0) (Neg (Const (Truth true)))) ≡ false)
unfolding may_be may_fail
known_minus = (refl, refl, refl, refl, refl, refl, refl, refl, refl, refl, refl, refl)

-- K + 1 may leave the limit of numbers on a row, also where another conjunct isn't TRUE there
pub known_arithmetic :
    may_hold known (And (at 4) (Compare comparisons.Equal (Add (Column 0) (Const (number 1))) (Const (number 8)))) ≡ true
unfolding may_be may_fail
known_arithmetic = refl
