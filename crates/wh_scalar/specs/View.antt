-- What scalars of the code stand for.
--     scalar_of     the scalar of a tree
--     of_sides      the operator of a scalar of two sides, on their values
--     Gives         what a fallible evaluation gives: the value that is meant, or the fault where there is none
--     Tells         what a fallible test gives: whether the value that is meant is TRUE
use Rattle.std.specs.Prelude.{◌≡◌, Bool, ◌+ℤ◌, ◌-ℤ◌, ◌*ℤ◌, Option, Some, None, option_map, Result, Ok, Err}
use Rattle.wh_value.specs.Value as values
use Rattle.wh_value.specs.View.{value_of}
use Rattle.wh_value.specs.declared.value.Value.{Value}
use Rattle.wh_meaning.specs.Scalar as meaning
use Rattle.wh_scalar.specs.declared.scalar.Scalar.{Scalar, fold-Scalar}
use Rattle.wh_scalar.specs.declared.scalar.Scalar.TheOpen.{Scalar-F}
use Rattle.wh_scalar.specs.declared.fault.EvalFault.{EvalFault}
use Rattle.wh_scalar.specs.declared.fault.EvalFault.TheVariants.{NumberOutOfRange, OutOfMemory}

abbrev pub layer_of : Scalar-F meaning.Scalar → meaning.Scalar
layer_of (Scalar-F.Const v) = meaning.Const (value_of v)
layer_of (Scalar-F.Column place) = meaning.Column place
layer_of (Scalar-F.Neg x) = meaning.Neg x
layer_of (Scalar-F.Add x y) = meaning.Add x y
layer_of (Scalar-F.Sub x y) = meaning.Sub x y
layer_of (Scalar-F.Mul x y) = meaning.Mul x y
layer_of (Scalar-F.Compare c x y) = meaning.Compare c x y
layer_of (Scalar-F.And x y) = meaning.And x y
layer_of (Scalar-F.Or x y) = meaning.Or x y
layer_of (Scalar-F.Not x) = meaning.Not x
layer_of (Scalar-F.IsNull x) = meaning.IsNull x

abbrev pub scalar_of : Scalar → meaning.Scalar
scalar_of e = fold-Scalar meaning.Scalar layer_of e

abbrev pub of_sides : meaning.Scalar → values.Value → values.Value → Option values.Value
of_sides (meaning.Add a b) v w = meaning.computed (λ x y. x +ℤ y) v w
of_sides (meaning.Sub a b) v w = meaning.computed (λ x y. x -ℤ y) v w
of_sides (meaning.Mul a b) v w = meaning.computed (λ x y. x *ℤ y) v w
of_sides (meaning.Compare c a b) v w = Some (meaning.compared c v w)
of_sides (meaning.And a b) v w = Some (meaning.conjoined v w)
of_sides _ v w = Some (meaning.disjoined v w)

abbrev pub Gives : Result Value EvalFault → Option values.Value → Type 0
Gives (Ok v) meant = meant ≡ Some (value_of v)
Gives (Err NumberOutOfRange) meant = meant ≡ None
Gives (Err OutOfMemory) meant = Unit {0}

abbrev pub Tells : Result Bool EvalFault → Option values.Value → Type 0
Tells (Ok truth) meant = option_map meaning.is_true meant ≡ Some truth
Tells (Err NumberOutOfRange) meant = meant ≡ None
Tells (Err OutOfMemory) meant = Unit {0}
