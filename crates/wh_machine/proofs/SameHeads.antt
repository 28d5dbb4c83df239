-- Scalars that are the same have one type.
--     same_head     of two scalars that are the same
use Rattle.std.proofs.Common.{◌≡◌, ℕ, true, Option, refl, ap, arith}
use Rattle.std.specs.Prelude.{nat_eq}
use Rattle.std.specs.Ordering.{is_eq}
use Rattle.std.proofs.lemmas.Bool.Decides.{nat_tests}
use Rattle.wh_value.specs.Value.{Value, Number, Truth, Text, Null, value_cmp}
use Rattle.wh_value.specs.Column.{ColumnType}
use Rattle.wh_meaning.specs.Scalar.{Scalar, Const, Column, Neg, Add, Sub, Mul, Compare, And, Or, Not, IsNull}
use Rattle.wh_naming.specs.Typing.{value_type}
use Rattle.wh_naming.specs.Grouping.{is_same}
use Rattle.wh_machine.proofs.ValueTypes.{head_type}

same_value : (v w : Value) → is_eq (value_cmp v w) ≡ true → value_type v ≡ value_type w
same_value (Number a) (Number b) same = refl
same_value (Truth a) (Truth b) same = refl
same_value (Text a) (Text b) same = refl
same_value Null Null same = refl
same_value _ _ same = absurd cc

same_place : (p q : ℕ) → nat_eq p q ≡ true → p ≡ q
same_place p q test = grind (arith, nat_tests)

pub same_head : (types : ℕ → Option ColumnType) (s t : Scalar) → is_same s t ≡ true → head_type types s
    ≡ head_type types t
unfolding is_same
same_head types (Const v) (Const v2) same = same_value v v2 same
same_head types (Column p) (Column p2) same = ap types (same_place p p2 same)
same_head types (Neg a) (Neg a2) same = refl
same_head types (Add a b) (Add a2 b2) same = refl
same_head types (Sub a b) (Sub a2 b2) same = refl
same_head types (Mul a b) (Mul a2 b2) same = refl
same_head types (Compare o a b) (Compare o2 a2 b2) same = refl
same_head types (And a b) (And a2 b2) same = refl
same_head types (Or a b) (Or a2 b2) same = refl
same_head types (Not a) (Not a2) same = refl
same_head types (IsNull a) (IsNull a2) same = refl
same_head types _ _ same = absurd cc
