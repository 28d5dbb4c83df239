-- The laws of the row order, for the comparisons of the code and for the crates above.
--     value_total, row_total                     it is a total order
--     value-IsAntisymmetric, row-IsAntisymmetric     only equal values, and only equal rows, tie
use Rattle.std.specs.Prelude.{◌≡◌, ℕ, Bool, true, false, List, [], ℤ, pos, refl}
use Rattle.std.proofs.Common.{ap, subst}
use Rattle.std.specs.declared.cmp.Ordering.{Ordering}
use Rattle.std.specs.declared.cmp.Ordering.TheVariants.{Less, Equal, Greater}
use Rattle.std.specs.Ordering.{nat_cmp, int_cmp, bool_cmp, ordering_then, then_cmp, on}
use Rattle.std.specs.Cmp.{IsTotalOrder, nat_cmp_total, int_cmp_total, bool_cmp_total, then_total, on_total}
use Rattle.std.specs.Cmp.Lexicographic.{slice_cmp, lists_total, nat_list_cmp_total}
use Rattle.std.specs.FinMap.{IsAntisymmetric, int_cmp-IsAntisymmetric, nat_cmp-IsAntisymmetric}
use Rattle.std.specs.FinMap.{slice_cmp-IsAntisymmetric}
use Rattle.wh_value.specs.Value.{Value, Number, Truth, Text, Null, value_cmp, row_cmp}

abbrev kind_of : Value → ℕ
kind_of (Number z) = 0
kind_of (Truth b) = 1
kind_of (Text bytes) = 2
kind_of Null = 3

abbrev number_of : Value → ℤ
number_of (Number z) = z
number_of (Truth b) = pos 0
number_of (Text bytes) = pos 0
number_of Null = pos 0

abbrev truth_of : Value → Bool
truth_of (Number z) = false
truth_of (Truth b) = b
truth_of (Text bytes) = false
truth_of Null = false

abbrev bytes_of : Value → List ℕ
bytes_of (Number z) = []
bytes_of (Truth b) = []
bytes_of (Text bytes) = bytes
bytes_of Null = []

-- by kind, and then by what each kind has
abbrev by_parts : Value → Value → Ordering
by_parts = then_cmp (on kind_of nat_cmp)
    (then_cmp (on number_of int_cmp) (then_cmp (on truth_of bool_cmp) (on bytes_of (slice_cmp nat_cmp))))

then-Equal : (r : Ordering) → ordering_then r Equal ≡ r
then-Equal Less = refl
then-Equal Equal = refl
then-Equal Greater = refl

by_parts-is : (a b : Value) → by_parts a b ≡ value_cmp a b
by_parts-is (Number a) (Number b) = then-Equal (int_cmp a b)
by_parts-is (Number a) (Truth b) = refl
by_parts-is (Number a) (Text b) = refl
by_parts-is (Number a) Null = refl
by_parts-is (Truth a) (Number b) = refl
by_parts-is (Truth a) (Truth b) = then-Equal (bool_cmp a b)
by_parts-is (Truth a) (Text b) = refl
by_parts-is (Truth a) Null = refl
by_parts-is (Text a) (Number b) = refl
by_parts-is (Text a) (Truth b) = refl
by_parts-is (Text a) (Text b) = refl
by_parts-is (Text a) Null = refl
by_parts-is Null (Number b) = refl
by_parts-is Null (Truth b) = refl
by_parts-is Null (Text b) = refl
by_parts-is Null Null = refl

pub value_total : IsTotalOrder value_cmp
value_total = subst IsTotalOrder (λ i a b. by_parts-is a b i)
    (then_total (on_total kind_of nat_cmp_total) (then_total (on_total number_of int_cmp_total)
    (then_total (on_total truth_of bool_cmp_total) (on_total bytes_of nat_list_cmp_total))))

pub row_total : IsTotalOrder row_cmp
row_total = lists_total value_total

bool-IsAntisymmetric : (a b : Bool) → bool_cmp a b ≡ Equal → a ≡ b
bool-IsAntisymmetric true true e = refl
bool-IsAntisymmetric true false e = cc
bool-IsAntisymmetric false true e = cc
bool-IsAntisymmetric false false e = refl

pub value-IsAntisymmetric : IsAntisymmetric value_cmp
value-IsAntisymmetric (Number a) (Number b) e = ap Number (int_cmp-IsAntisymmetric a b e)
value-IsAntisymmetric (Truth a) (Truth b) e = ap Truth (bool-IsAntisymmetric a b e)
value-IsAntisymmetric (Text a) (Text b) e = ap Text (slice_cmp-IsAntisymmetric nat_cmp-IsAntisymmetric a b e)
value-IsAntisymmetric Null Null e = refl
value-IsAntisymmetric (Number a) (Truth b) e = cc
value-IsAntisymmetric (Number a) (Text b) e = cc
value-IsAntisymmetric (Number a) Null e = cc
value-IsAntisymmetric (Truth a) (Number b) e = cc
value-IsAntisymmetric (Truth a) (Text b) e = cc
value-IsAntisymmetric (Truth a) Null e = cc
value-IsAntisymmetric (Text a) (Number b) e = cc
value-IsAntisymmetric (Text a) (Truth b) e = cc
value-IsAntisymmetric (Text a) Null e = cc
value-IsAntisymmetric Null (Number b) e = cc
value-IsAntisymmetric Null (Truth b) e = cc
value-IsAntisymmetric Null (Text b) e = cc

pub row-IsAntisymmetric : IsAntisymmetric row_cmp
row-IsAntisymmetric = slice_cmp-IsAntisymmetric value-IsAntisymmetric
