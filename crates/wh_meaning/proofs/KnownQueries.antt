-- Known values of queries, worked by hand.
--     known_filter, known_undefined_filter     Filter drops FALSE and NULL, and a row without a value
--                                              leaves the query undefined
--     known_join       Join multiplies counts; a condition that is NULL pairs nothing
--     known_union      UNION ALL adds counts
--     known_no_group, known_one_group     Group over no rows: with keys no group, without keys one
--     known_sum, known_great_sum     SUM looks at its limit once, over all rows
--     known_nulls, known_values      NULL is not in a SUM nor counted; SUM of NULLs is NULL
--     known_keys       rows of equal keys are one group; NULL is a key as others are
use Rattle.std.specs.Prelude.{◌≡◌, ℕ, true, false, List, [], ◌∷◌, pos, neg_ℤ, Option, Some, None, option_map, refl}
use Rattle.std.proofs.Common.{sym, ap, ◌∙◌}
use Rattle.wh_value.specs.Value.{Value, Number, Truth, Text, Null, Row}
use Rattle.wh_value.specs.declared.comparison.Comparison.TheVariants as comparisons
use Rattle.wh_meaning.specs.Scalar.{Scalar, Const, Column, Add, Compare, val}
use Rattle.wh_meaning.specs.Bag.{Bag, no_rows, bag_of}
use Rattle.wh_meaning.specs.Query.{Call, Sum, CountRows, Count, Query, Scan, Filter, Project, Join, UnionAll, Group}
use Rattle.wh_meaning.specs.Query.{values_on, eval}
use Rattle.wh_meaning.proofs.BagLaws.{bag_of-append}
use Rattle.wh_meaning.proofs.Listed.{filtered-listed, joined-listed, grouped-listed}

abbrev n : ℕ → Value
n k = Number (pos k)

abbrev minus : ℕ → Value
minus k = Number (neg_ℤ (pos k))

-- rows of one value each
abbrev ones : List Value → List Row
ones [] = []
ones (v ∷ vs) = (v ∷ []) ∷ ones vs

-- the bags of one or two sources of these rows
abbrev over : List Row → List Bag
over rows = bag_of rows ∷ []

abbrev over_two : List Row → List Row → List Bag
over_two left right = bag_of left ∷ bag_of right ∷ []

abbrev Shows : Query → List Bag → List Row → Type 0
Shows q instance rows = eval q instance ≡ Some (bag_of rows)

abbrev ShowsNothing : Query → List Bag → Type 0
ShowsNothing q instance = eval q instance ≡ None

-- ---- Filter

pub known_filter : Shows (Filter (Scan 0) (Column 0))
    (over (ones (Truth false ∷ Null ∷ Truth true ∷ Null ∷ Truth true ∷ []))) (ones (Truth true ∷ Truth true ∷ []))
unfolding val eval
known_filter = filtered-listed (Column 0) (ones (Truth false ∷ Null ∷ Truth true ∷ Null ∷ Truth true ∷ []))

abbrev next_above_nothing : Scalar
next_above_nothing = Compare comparisons.Greater (Add (Column 0) (Const (n 1))) (Const (n 0))

pub known_undefined_filter : ShowsNothing (Filter (Scan 0) next_above_nothing)
    (over (ones (n 1 ∷ n 999999999999999999 ∷ [])))
unfolding val eval
known_undefined_filter = filtered-listed next_above_nothing (ones (n 1 ∷ n 999999999999999999 ∷ []))

-- ---- Join and UNION ALL

abbrev pair : Value → Value → Row
pair a b = a ∷ b ∷ []

pub known_join : Shows (Join (Scan 0) (Scan 1) (Compare comparisons.Equal (Column 0) (Column 1)))
    (over_two (ones (n 1 ∷ n 1 ∷ n 2 ∷ Null ∷ [])) (ones (n 1 ∷ n 1 ∷ n 1 ∷ n 3 ∷ Null ∷ [])))
    (pair (n 1) (n 1) ∷ pair (n 1) (n 1) ∷ pair (n 1) (n 1) ∷ pair (n 1) (n 1) ∷ pair (n 1) (n 1)
    ∷ pair (n 1) (n 1) ∷ [])
unfolding val eval
known_join = joined-listed (Compare comparisons.Equal (Column 0) (Column 1))
    (ones (n 1 ∷ n 1 ∷ n 2 ∷ Null ∷ [])) (ones (n 1 ∷ n 1 ∷ n 1 ∷ n 3 ∷ Null ∷ []))

pub known_union : Shows (UnionAll (Scan 0) (Scan 1))
    (over_two (ones (n 1 ∷ n 2 ∷ [])) (ones (n 1 ∷ n 1 ∷ []))) (ones (n 1 ∷ n 2 ∷ n 1 ∷ n 1 ∷ []))
unfolding eval
known_union = ap Some (sym (bag_of-append (ones (n 1 ∷ n 2 ∷ [])) (ones (n 1 ∷ n 1 ∷ []))))

-- ---- Group

abbrev all_calls : List Call
all_calls = Sum (Column 0) ∷ CountRows ∷ Count (Column 0) ∷ []

pub known_no_group : Shows (Group (Scan 0) (Column 0 ∷ []) all_calls) (over []) []
unfolding val eval values_on
known_no_group = grouped-listed (Column 0 ∷ []) all_calls []

pub known_one_group : Shows (Group (Scan 0) [] all_calls) (over []) ((Null ∷ n 0 ∷ n 0 ∷ []) ∷ [])
unfolding val eval values_on
known_one_group = grouped-listed [] all_calls []

-- two parts of the sum have more than 18 digits, in whatever order the rows stand; the sum hasn't
pub known_sum : Shows (Group (Scan 0) [] (Sum (Column 0) ∷ []))
    (over (ones (n 999999999999999999 ∷ n 999999999999999999 ∷ minus 999999999999999999 ∷ [])))
    (ones (n 999999999999999999 ∷ []))
unfolding val eval values_on
known_sum = grouped-listed [] (Sum (Column 0) ∷ [])
    (ones (n 999999999999999999 ∷ n 999999999999999999 ∷ minus 999999999999999999 ∷ []))

pub known_great_sum : ShowsNothing (Group (Scan 0) [] (Sum (Column 0) ∷ []))
    (over (ones (n 999999999999999999 ∷ n 1 ∷ [])))
unfolding val eval values_on
known_great_sum = grouped-listed [] (Sum (Column 0) ∷ []) (ones (n 999999999999999999 ∷ n 1 ∷ []))

pub known_nulls : Shows (Group (Scan 0) [] all_calls) (over (ones (Null ∷ Null ∷ []))) ((Null ∷ n 2 ∷ n 0 ∷ []) ∷ [])
unfolding val eval values_on
known_nulls = grouped-listed [] all_calls (ones (Null ∷ Null ∷ []))

pub known_values : Shows (Group (Scan 0) [] all_calls)
    (over (ones (n 5 ∷ Null ∷ n 5 ∷ []))) ((n 10 ∷ n 3 ∷ n 2 ∷ []) ∷ [])
unfolding val eval values_on
known_values = grouped-listed [] all_calls (ones (n 5 ∷ Null ∷ n 5 ∷ []))

pub known_keys : Shows (Group (Scan 0) (Column 0 ∷ []) (CountRows ∷ [])) (over (ones (Null ∷ n 1 ∷ Null ∷ [])))
    (pair (n 1) (n 1) ∷ pair Null (n 2) ∷ [])
unfolding val eval values_on
known_keys = grouped-listed (Column 0 ∷ []) (CountRows ∷ []) (ones (Null ∷ n 1 ∷ Null ∷ []))
