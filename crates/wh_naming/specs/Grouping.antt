-- Items of a core with GROUP BY or with a call.
--     is_same      whether two scalars are the same
--     regrouped    a scalar over the rows of groups: each part that equals a key is the key's column, and each call is
--                  a column behind the keys; None where a column stands elsewhere
use Rattle.std.specs.Prelude.{ℕ, ◌+◌, ◌-◌, Bool, true, false, ◌&&◌, if◌then◌else◌, List, length, Option, Some, None}
use Rattle.std.specs.Prelude.{option_map, nat_eq, nat_lt}
use Rattle.std.specs.List.{position}
use Rattle.std.specs.Ordering.{is_eq}
use Rattle.wh_value.specs.Value.{value_cmp}
use Rattle.wh_value.specs.declared.comparison.Comparison.{Comparison}
use Rattle.wh_value.specs.declared.comparison.Comparison.TheVariants as comparisons
use Rattle.wh_meaning.specs.Scalar.{Scalar, Const, Column, Neg, Add, Sub, Mul, Compare, And, Or, Not, IsNull, of_two}

abbrev pub same_comparison : Comparison → Comparison → Bool
same_comparison comparisons.Equal comparisons.Equal = true
same_comparison comparisons.Unequal comparisons.Unequal = true
same_comparison comparisons.Less comparisons.Less = true
same_comparison comparisons.LessOrEqual comparisons.LessOrEqual = true
same_comparison comparisons.Greater comparisons.Greater = true
same_comparison comparisons.GreaterOrEqual comparisons.GreaterOrEqual = true
same_comparison _ _ = false

unfoldable pub is_same : Scalar → Scalar → Bool
is_same (Const v) (Const w) = is_eq (value_cmp v w)
is_same (Column p) (Column q) = nat_eq p q
is_same (Neg a) (Neg b) = is_same a b
is_same (Add a b) (Add c d) = is_same a c && is_same b d
is_same (Sub a b) (Sub c d) = is_same a c && is_same b d
is_same (Mul a b) (Mul c d) = is_same a c && is_same b d
is_same (Compare o a b) (Compare p c d) = same_comparison o p && (is_same a c && is_same b d)
is_same (And a b) (And c d) = is_same a c && is_same b d
is_same (Or a b) (Or c d) = is_same a c && is_same b d
is_same (Not a) (Not b) = is_same a b
is_same (IsNull a) (IsNull b) = is_same a b
is_same _ _ = false

abbrev pub key_or : Option ℕ → Option Scalar → Option Scalar
key_or None inner = inner
key_or (Some place) inner = Some (Column place)

-- the column of the first key that a part equals, or else what becomes of the part
abbrev pub at_key : List Scalar → Scalar → Option Scalar → Option Scalar
at_key keys part inner = key_or (position (is_same part) keys) inner

-- a call's place is behind the columns of all entries
abbrev pub call_column : ℕ → ℕ → ℕ → Option Scalar
call_column keys width place = if nat_lt place width then None else Some (Column (keys + (place - width)))

abbrev pub both : (Scalar → Scalar → Scalar) → Option Scalar → Option Scalar → Option Scalar
both make a b = of_two (λ x y. Some (make x y)) a b

unfoldable pub regrouped : List Scalar → ℕ → Scalar → Option Scalar
regrouped keys width (Const v) = at_key keys (Const v) (Some (Const v))
regrouped keys width (Column place) = at_key keys (Column place) (call_column (length keys) width place)
regrouped keys width (Neg a) = at_key keys (Neg a) (option_map Neg (regrouped keys width a))
regrouped keys width (Add a b) = at_key keys (Add a b) (both Add (regrouped keys width a) (regrouped keys width b))
regrouped keys width (Sub a b) = at_key keys (Sub a b) (both Sub (regrouped keys width a) (regrouped keys width b))
regrouped keys width (Mul a b) = at_key keys (Mul a b) (both Mul (regrouped keys width a) (regrouped keys width b))
regrouped keys width (Compare c a b) =
    at_key keys (Compare c a b) (both (Compare c) (regrouped keys width a) (regrouped keys width b))
regrouped keys width (And a b) = at_key keys (And a b) (both And (regrouped keys width a) (regrouped keys width b))
regrouped keys width (Or a b) = at_key keys (Or a b) (both Or (regrouped keys width a) (regrouped keys width b))
regrouped keys width (Not a) = at_key keys (Not a) (option_map Not (regrouped keys width a))
regrouped keys width (IsNull a) = at_key keys (IsNull a) (option_map IsNull (regrouped keys width a))
