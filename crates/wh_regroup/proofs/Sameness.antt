-- Scalars that are the same are equal, and each scalar is the same as itself.
use Rattle.std.specs.Prelude.{◌≡◌, Bool, true, false, ◌&&◌, refl}
use Rattle.std.specs.declared.cmp.Ordering.{Ordering}
use Rattle.std.specs.declared.cmp.Ordering.TheVariants.{Less, Equal, Greater}
use Rattle.std.specs.Ordering.{is_eq, ordering_reverse}
use Rattle.std.specs.Cmp.Derive.{both_true}
use Rattle.std.proofs.Common.{ap, subst}
use Rattle.std.proofs.lemmas.Bool.{and_parts, eqb-true, eq-eqb}
use Rattle.wh_value.specs.Value.{value_cmp}
use Rattle.wh_value.specs.Order.{value_total, value-IsAntisymmetric}
use Rattle.wh_value.proofs.TestLaws.{is-Equal}
use Rattle.wh_value.specs.declared.comparison.Comparison.{Comparison}
use Rattle.wh_value.specs.declared.comparison.Comparison.TheVariants as comparisons
use Rattle.wh_meaning.specs.Scalar.{Scalar, Const, Column, Neg, Add, Sub, Mul, Compare, And, Or, Not, IsNull}
use Rattle.wh_naming.specs.Grouping.{is_same, same_comparison}
use Rattle.wh_regroup.specs.Laws.{SameScalarsAreEqual}

same_comparisons : (o p : Comparison) → same_comparison o p ≡ true → o ≡ p
same_comparisons comparisons.Equal comparisons.Equal e = refl
same_comparisons comparisons.Unequal comparisons.Unequal e = refl
same_comparisons comparisons.Less comparisons.Less e = refl
same_comparisons comparisons.LessOrEqual comparisons.LessOrEqual e = refl
same_comparisons comparisons.Greater comparisons.Greater e = refl
same_comparisons comparisons.GreaterOrEqual comparisons.GreaterOrEqual e = refl
same_comparisons _ _ e = cc

same_comparison-itself : (o : Comparison) → same_comparison o o ≡ true
same_comparison-itself comparisons.Equal = refl
same_comparison-itself _ = refl

equal_to_itself : (r : Ordering) → r ≡ ordering_reverse r → r ≡ Equal
equal_to_itself Less e = cc
equal_to_itself Equal e = refl
equal_to_itself Greater e = cc

-- parts that are equal each
two : (make : Scalar → Scalar → Scalar) {a b c d : Scalar} → a ≡ c → b ≡ d → make a b ≡ make c d
two make e f = cc

three : {o p : Comparison} {a b c d : Scalar} → o ≡ p → a ≡ c → b ≡ d → Compare o a b ≡ Compare p c d
three e f g = cc

same_are_equal : (a b : Scalar) → is_same a b ≡ true → a ≡ b
unfolding is_same
same_are_equal (Const v) (Const w) e = ap Const (value-IsAntisymmetric v w (is-Equal _ e))
same_are_equal (Column p) (Column q) e = ap Column (eqb-true p q e)
same_are_equal (Neg a) (Neg b) e = ap Neg (same_are_equal a b e)
same_are_equal (Add a b) (Add c d) e = two Add (same_are_equal a c (and_parts _ _ e).0)
    (same_are_equal b d (and_parts _ _ e).1)
same_are_equal (Sub a b) (Sub c d) e = two Sub (same_are_equal a c (and_parts _ _ e).0)
    (same_are_equal b d (and_parts _ _ e).1)
same_are_equal (Mul a b) (Mul c d) e = two Mul (same_are_equal a c (and_parts _ _ e).0)
    (same_are_equal b d (and_parts _ _ e).1)
same_are_equal (Compare o a b) (Compare p c d) e =
    three (same_comparisons o p (and_parts _ _ e).0) (same_are_equal a c (and_parts _ _ (and_parts _ _ e).1).0)
    (same_are_equal b d (and_parts _ _ (and_parts _ _ e).1).1)
same_are_equal (And a b) (And c d) e = two And (same_are_equal a c (and_parts _ _ e).0)
    (same_are_equal b d (and_parts _ _ e).1)
same_are_equal (Or a b) (Or c d) e = two Or (same_are_equal a c (and_parts _ _ e).0)
    (same_are_equal b d (and_parts _ _ e).1)
same_are_equal (Not a) (Not b) e = ap Not (same_are_equal a b e)
same_are_equal (IsNull a) (IsNull b) e = ap IsNull (same_are_equal a b e)
same_are_equal _ _ e = cc

same_as_itself : (a : Scalar) → is_same a a ≡ true
unfolding is_same
same_as_itself (Const v) = ap is_eq (equal_to_itself _ (value_total.antisymm v v))
same_as_itself (Column p) = eq-eqb p p refl
same_as_itself (Neg a) = same_as_itself a
same_as_itself (Add a b) = both_true (same_as_itself a) (same_as_itself b)
same_as_itself (Sub a b) = both_true (same_as_itself a) (same_as_itself b)
same_as_itself (Mul a b) = both_true (same_as_itself a) (same_as_itself b)
same_as_itself (Compare o a b) = both_true (same_comparison-itself o) (both_true (same_as_itself a) (same_as_itself b))
same_as_itself (And a b) = both_true (same_as_itself a) (same_as_itself b)
same_as_itself (Or a b) = both_true (same_as_itself a) (same_as_itself b)
same_as_itself (Not a) = same_as_itself a
same_as_itself (IsNull a) = same_as_itself a

pub same_scalars_are_equal : SameScalarsAreEqual
same_scalars_are_equal a b = (same_are_equal a b, λ e. subst (λ x. is_same a x ≡ true) e (same_as_itself a))
