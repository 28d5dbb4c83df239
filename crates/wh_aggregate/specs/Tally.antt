-- What a call adds up, and what it answers.
--     argument_of     the value that a row gives to a call; to COUNT(*) one that isn't NULL
--     begun           the totals of calls before the first row
--     tallied         the totals with a row more
--     both_totals     two totals taken together
--     together        lists of totals taken together, each total with the one at its place
--     answers         the values of calls; None where a number has more than 18 digits
use Rattle.std.specs.Prelude.{List, [], ◌∷◌, ℤ, ℕ, pos, ◌+◌, ◌+ℤ◌, ◌≡◌, true, Option, Some, refl}
use Rattle.std.specs.Coded.{Coded, code_by, coded×, coded_ℤ, coded_ℕ}
use Rattle.wh_value.specs.Value.{Value, Truth, Row}
use Rattle.wh_meaning.specs.Scalar.{val, of_two}
use Rattle.wh_meaning.specs.Query.{Call, Sum, CountRows, Count, Total, with_argument}
use Rattle.wh_meaning.specs.Query.{with_value, sum_value, count_value}

abbrev pub argument_of : Call → Row → Option Value
argument_of (Sum e) row = val e row
argument_of CountRows row = Some (Truth true)
argument_of (Count e) row = val e row

abbrev pub nothing : Total
nothing = record { sum = pos 0; values = 0 }

abbrev pub begun : List Call → List Total
begun [] = []
begun (call ∷ calls) = nothing ∷ begun calls

abbrev pub before : Total → List Total → Option (List Total)
before t ts = Some (t ∷ ts)

abbrev pub tallied : List Call → Row → List Total → Option (List Total)
tallied [] row ts = Some ts
tallied (call ∷ calls) row [] = Some []
tallied (call ∷ calls) row (t ∷ ts) =
    of_two before (with_argument (argument_of call row) (Some t)) (tallied calls row ts)

abbrev pub both_totals : Total → Total → Total
both_totals a b = record { sum = a.sum +ℤ b.sum; values = a.values + b.values }

-- as far as both go; the first list's rest stays
abbrev pub together : List Total → List Total → List Total
together [] us = []
together (t ∷ ts) [] = t ∷ ts
together (t ∷ ts) (u ∷ us) = both_totals t u ∷ together ts us

abbrev pub answer : Call → Total → Option Value
answer (Sum e) t = sum_value t.sum t.values
answer CountRows t = count_value t.values
answer (Count e) t = count_value t.values

abbrev pub answers : List Call → List Total → Option Row
answers [] ts = Some []
answers (call ∷ calls) [] = Some []
answers (call ∷ calls) (t ∷ ts) = with_value (answer call t) (answers calls ts)

abbrev parts : Total → ℤ × ℕ
parts t = (t.sum, t.values)

abbrev whole : ℤ × ℕ → Total
whole p = record { sum = p.0; values = p.1 }

pub whole_parts : (t : Total) → whole (parts t) ≡ t
whole_parts t = refl

-- so that a total can be what contracts see of a struct
abbrev pub coded_total : Coded Total
coded_total = code_by (ℤ × ℕ) (coded× coded_ℤ coded_ℕ) parts whole whole_parts
