-- Whether a condition may be TRUE on rows of whose columns the least and the greatest value are known.
--     Sides, columns_of         both, of a column; those of each column
--     constant_of               the value that a constant has, behind a minus sign too
--     may_be                    whether it may be
--     may_fail                  whether a scalar may have no value on a row
--     may_hold                  whether a condition may be TRUE, or may have no value
--     IsWithin                  each value of a row lies between its column's sides; NULL is the greatest value
--     Rejects, RejectsEach      a condition has a value that isn't TRUE: on a row, and on each row of a partition
use Rattle.std.specs.Prelude.{◌≡◌, ℕ, Bool, true, false, not, ◌&&◌, ◌||◌, List, map, Option, Some, None, is_none}
use Rattle.std.specs.Prelude.{slice_get}
use Rattle.std.specs.List.{All}
use Rattle.std.specs.Ordering.{is_eq, is_lt, is_gt}
use Rattle.wh_value.specs.Value.{Value, Row, value_cmp}
use Rattle.wh_value.specs.View.{value_of}
use Rattle.wh_value.specs.declared.comparison.Comparison.{Comparison}
use Rattle.wh_value.specs.declared.comparison.Comparison.TheVariants as comparisons
use Rattle.wh_meaning.specs.Scalar.{Scalar, Const, Column, Neg, Add, Sub, Mul, Compare, And, Or, Not, IsNull}
use Rattle.wh_meaning.specs.Scalar.{is_null, is_true, negated, val}
use Rattle.wh_meaning.specs.Listing.{cell}
use Rattle.wh_frame.specs.Partition.{Partition}
use Rattle.wh_part.specs.declared.meta.Bounds.{Bounds}
use Rattle.wh_part.specs.declared.meta.PartMeta.{PartMeta}

abbrev pub Sides : Type 0
Sides = Value × Value

abbrev pub sides_of : Bounds → Sides
sides_of bounds = (value_of bounds.least, value_of bounds.greatest)

abbrev pub columns_of : PartMeta → List Sides
columns_of meta = map sides_of meta.columns.items

-- ---- where a condition may be TRUE

abbrev pub may_meet : Sides → Comparison → Value → Bool
may_meet b comparisons.Equal v = not (is_gt (value_cmp b.0 v)) && not (is_gt (value_cmp v b.1))
may_meet b comparisons.Unequal v = not (is_eq (value_cmp b.0 v) && is_eq (value_cmp b.1 v))
may_meet b comparisons.Less v = is_lt (value_cmp b.0 v)
may_meet b comparisons.LessOrEqual v = not (is_gt (value_cmp b.0 v))
may_meet b comparisons.Greater v = is_lt (value_cmp v b.1)
may_meet b comparisons.GreaterOrEqual v = not (is_gt (value_cmp v b.1))

-- None where it is no constant, or its number would have more than 18 digits
abbrev pub constant_of : Scalar → Option Value
constant_of (Const v) = Some v
constant_of (Neg (Const v)) = negated v
constant_of _ = None

-- no comparison with NULL is TRUE; a column without sides may hold anything
abbrev pub may_compare_within : Option Sides → Comparison → Option Value → Bool
may_compare_within found c None = true
may_compare_within None c (Some v) = true
may_compare_within (Some b) c (Some v) = not (is_null v) && (not (is_null b.0) && may_meet b c v)

-- a column compared with a constant
abbrev pub may_compare_column : List Sides → Comparison → Scalar → Scalar → Bool
may_compare_column columns c (Column place) y = may_compare_within (slice_get columns place) c (constant_of y)
may_compare_column columns c _ y = true

-- the comparison with its sides exchanged
abbrev pub converse_of : Comparison → Comparison
converse_of comparisons.Equal = comparisons.Equal
converse_of comparisons.Unequal = comparisons.Unequal
converse_of comparisons.Less = comparisons.Greater
converse_of comparisons.LessOrEqual = comparisons.GreaterOrEqual
converse_of comparisons.Greater = comparisons.Less
converse_of comparisons.GreaterOrEqual = comparisons.LessOrEqual

abbrev pub may_compare : List Sides → Comparison → Scalar → Scalar → Bool
may_compare columns c x y = may_compare_column columns c x y && may_compare_column columns (converse_of c) y x

abbrev pub has_null : Option Sides → Bool
has_null None = true
has_null (Some b) = is_null b.1

abbrev pub may_be_null : List Sides → Scalar → Bool
may_be_null columns (Column place) = has_null (slice_get columns place)
may_be_null columns _ = true

unfoldable pub may_be : List Sides → Scalar → Bool
may_be columns (Const v) = true
may_be columns (Column place) = true
may_be columns (Neg a) = true
may_be columns (Add a b) = true
may_be columns (Sub a b) = true
may_be columns (Mul a b) = true
may_be columns (Compare c a b) = may_compare columns c a b
may_be columns (And a b) = may_be columns a && may_be columns b
may_be columns (Or a b) = may_be columns a || may_be columns b
may_be columns (Not a) = true
may_be columns (IsNull a) = may_be_null columns a

-- ---- where it may have no value

-- arithmetic may leave the limit of numbers
unfoldable pub may_fail : Scalar → Bool
may_fail (Const v) = false
may_fail (Column place) = false
may_fail (Neg a) = is_none (constant_of (Neg a))
may_fail (Add a b) = true
may_fail (Sub a b) = true
may_fail (Mul a b) = true
may_fail (Compare c a b) = may_fail a || may_fail b
may_fail (And a b) = may_fail a || may_fail b
may_fail (Or a b) = may_fail a || may_fail b
may_fail (Not a) = may_fail a
may_fail (IsNull a) = may_fail a

abbrev pub may_hold : List Sides → Scalar → Bool
may_hold columns condition = may_fail condition || may_be columns condition

-- ---- rows that may be there, and rows that a condition rejects

pub record IsWithin (columns : List Sides) (row : Row) : Type 0 where
  pub least : (place : ℕ) (b : Sides) → slice_get columns place ≡ Some b
      → is_gt (value_cmp b.0 (cell row place)) ≡ false
  pub greatest : (place : ℕ) (b : Sides) → slice_get columns place ≡ Some b
      → is_gt (value_cmp (cell row place) b.1) ≡ false

abbrev pub IsRejected : Option Value → Type 0
IsRejected None = ⊥
IsRejected (Some v) = is_true v ≡ false

abbrev pub Rejects : Scalar → Row → Type 0
Rejects condition row = IsRejected (val condition row)

abbrev pub RejectsEach : Scalar → Partition → Type 0
RejectsEach condition p = All (λ e. Rejects condition e.1) p.rows
