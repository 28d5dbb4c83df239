-- How great a sum gets.
--     sum_within     at most as many times the greatest argument as there are arguments
use Rattle.std.specs.Prelude.{◌≡◌, ℕ, suc, ◌+◌, ◌*◌, ◌≤◌, ℤ, ◌+ℤ◌, unsigned_abs, List, [], ◌∷◌, Option, Some, None}
use Rattle.std.proofs.Common.{arith, sym, subst}
use Rattle.std.proofs.lemmas.Int.{ints}
use Rattle.wh_value.specs.Value.{Value, Number, Truth, Text, Null, Row}
use Rattle.wh_meaning.specs.Scalar.{Scalar, val}
use Rattle.wh_meaning.specs.Bag.{bag_of}
use Rattle.wh_meaning.specs.Query.{Total, with_number, with_argument, total_of, rows_in}
use Rattle.wh_maintenance.proofs.Keys.{rows_in-with_row}
use Rattle.wh_maintenance.proofs.Totals.{total_of-no_rows, total_of-with_row}

abbrev pub IsNumberWithin : ℕ → Option Value → Type 0
IsNumberWithin most None = Unit {0}
IsNumberWithin most (Some (Number z)) = unsigned_abs z ≤ most
IsNumberWithin most (Some (Truth b)) = Unit {0}
IsNumberWithin most (Some (Text b)) = Unit {0}
IsNumberWithin most (Some Null) = Unit {0}

abbrev pub IsTotalWithin : ℕ → ℕ → Option Total → Type 0
IsTotalWithin most rows None = Unit {0}
IsTotalWithin most rows (Some t) = (unsigned_abs t.sum ≤ t.values * most) × (t.values ≤ rows)

abs-plus : (a b : ℤ) → unsigned_abs (a +ℤ b) ≤ unsigned_abs a + unsigned_abs b
abs-plus a b = omega (arith, ints)

grown : (most rows : ℕ) (v : Value) (t : Total) → IsNumberWithin most (Some v) → IsTotalWithin most rows (Some t)
    → IsTotalWithin most (suc rows) (Some (with_number v t))
grown most rows (Number z) t h k = let p = abs-plus z t.sum in let a = k.0 in let b = k.1 in
    let m : suc t.values * most ≡ t.values * most + most = grind arith in (omega arith, omega arith)
grown most rows (Truth b) t h k = let a = k.0 in let b = k.1 in
    let m : suc t.values * most ≡ t.values * most + most = grind arith in (omega arith, omega arith)
grown most rows (Text x) t h k = let a = k.0 in let b = k.1 in
    let m : suc t.values * most ≡ t.values * most + most = grind arith in (omega arith, omega arith)
grown most rows Null t h k = let a = k.0 in let b = k.1 in (a, omega arith)

turned : (most rows : ℕ) (v : Option Value) (t : Option Total) → IsNumberWithin most v → IsTotalWithin most rows t
    → IsTotalWithin most (suc rows) (with_argument v t)
turned most rows None t h k = tt
turned most rows (Some v) None h k = tt
turned most rows (Some v) (Some t) h k = grown most rows v t h k

abbrev pub AreWithin : Scalar → ℕ → List Row → Type 0
AreWithin e most [] = Unit {0}
AreWithin e most (row ∷ rows) = IsNumberWithin most (val e row) × AreWithin e most rows

pub sum_within : (e : Scalar) (most : ℕ) (rows : List Row) → AreWithin e most rows
    → IsTotalWithin most (rows_in (bag_of rows)) (total_of e (bag_of rows))
sum_within e most [] h =
    subst (IsTotalWithin most (rows_in (bag_of []))) (sym (total_of-no_rows e)) (omega arith, omega arith)
sum_within e most (row ∷ rows) h =
    subst (IsTotalWithin most (rows_in (bag_of (row ∷ rows)))) (sym (total_of-with_row e row (bag_of rows)))
    (subst (λ n. IsTotalWithin most n (with_argument (val e row) (total_of e (bag_of rows))))
    (sym (rows_in-with_row row (bag_of rows)))
    (turned most (rows_in (bag_of rows)) (val e row) (total_of e (bag_of rows)) h.0 (sum_within e most rows h.1)))
