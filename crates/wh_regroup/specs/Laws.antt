-- What holds of scalars.
--     SameScalarsAreEqual     two scalars are the same exactly where they are equal
use Rattle.std.specs.Prelude.{◌≡◌, true}
use Rattle.wh_meaning.specs.Scalar.{Scalar}
use Rattle.wh_naming.specs.Grouping.{is_same}

abbrev pub SameScalarsAreEqual : Type 0
SameScalarsAreEqual = (a b : Scalar) → (is_same a b ≡ true → a ≡ b) × (a ≡ b → is_same a b ≡ true)
