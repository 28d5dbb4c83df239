-- Known changes, worked by hand.
--     less-plus        what a sum has more than one of its parts is the other
--     known_join       a Join with a row on each side, to each of which one comes: three pairs come
use Rattle.std.specs.Prelude.{◌≡◌, ℕ, pos, List, [], ◌∷◌, ◌++◌, Some}
use Rattle.std.proofs.Common.{arith, sym, ap, ◌∙◌}
use Rattle.wh_value.specs.Value.{Number, Row}
use Rattle.wh_value.specs.declared.comparison.Comparison.TheVariants as comparisons
use Rattle.wh_meaning.specs.Scalar.{Scalar, Column, Compare, val}
use Rattle.wh_meaning.specs.Bag.{Bag, no_rows, bag_of, plus, beside}
use Rattle.wh_meaning.proofs.BagLaws.{bag_of_same, count-plus, bag_of-append, no_rows-plus}
use Rattle.wh_meaning.proofs.Listed.{joined-listed}
use Rattle.wh_maintenance.specs.Turn.{less}
use Rattle.wh_maintenance.specs.Carried.{sided}
use Rattle.wh_maintenance.specs.Delta.{meets, joined_beside}
use Rattle.wh_maintenance.proofs.Less.{count-less}

pub less-plus : (a b : Bag) → less (plus a b) b ≡ a
less-plus a b = bag_of_same _ _ (λ q. let l = count-less (plus a b) b q in let s = count-plus a b q in omega arith)

abbrev keys : Scalar
keys = Compare comparisons.Equal (Column 0) (Column 2)

abbrev row : ℕ → Row
row n = Number (pos 1) ∷ Number (pos n) ∷ []

abbrev one : ℕ → List Row
one n = row n ∷ []

abbrev pair : ℕ → ℕ → Row
pair n m = row n ++ row m

came : meets keys (bag_of (one 2)) (bag_of (one 2)) (bag_of (one 7)) (bag_of (one 8))
    ≡ Some (bag_of (pair 2 8 ∷ pair 7 2 ∷ pair 7 8 ∷ []))
unfolding val
came =
    (λ i. beside (joined-listed keys (one 2) (one 8) i)
    (beside (joined-listed keys (one 7) (one 2) i) (joined-listed keys (one 7) (one 8) i)))
    ∙ ap Some (ap (plus (bag_of (pair 2 8 ∷ []))) (sym (bag_of-append (pair 7 2 ∷ []) (pair 7 8 ∷ [])))
    ∙ sym (bag_of-append (pair 2 8 ∷ []) (pair 7 2 ∷ pair 7 8 ∷ [])))

went : meets keys (bag_of (one 2)) (bag_of (one 2)) no_rows no_rows ≡ Some no_rows
unfolding val
went =
    (λ i. beside (joined-listed keys (one 2) [] i)
    (beside (joined-listed keys [] (one 2) i) (joined-listed keys [] [] i)))
    ∙ ap Some (ap (plus no_rows) (no_rows-plus no_rows) ∙ no_rows-plus no_rows)

pub known_join : joined_beside keys (bag_of (one 2)) (bag_of (one 2))
    (record { comes = bag_of (one 7); goes = no_rows }) (record { comes = bag_of (one 8); goes = no_rows })
    ≡ Some (record { comes = bag_of (pair 2 8 ∷ pair 7 2 ∷ pair 7 8 ∷ []); goes = no_rows })
known_join = λ i. sided (came i) (went i)
