-- A condition with arithmetic: pairs that stand on neither side have no value.
--     known_old, known_new      both bags are there
--     known_three               but not the change from all left rows of before and all right rows of afterwards
use Rattle.std.specs.Prelude.{◌≡◌, ℕ, List, [], ◌∷◌, pos, Option, Some, None}
use Rattle.std.proofs.Common.{refl, ap}
use Rattle.wh_value.specs.Value.{Number, Row}
use Rattle.wh_value.specs.declared.comparison.Comparison.TheVariants as comparisons
use Rattle.wh_meaning.specs.Scalar.{Scalar, Const, Column, Add, Compare, val}
use Rattle.wh_meaning.specs.Bag.{Bag, bag_of, beside}
use Rattle.wh_meaning.specs.Query.{joined}
use Rattle.wh_meaning.proofs.Listed.{joined-listed}
use Rattle.wh_maintenance.specs.Carried.{Change, sided}
use Rattle.wh_maintenance.proofs.Three.{three}

abbrev one_cell : ℕ → List Row
one_cell n = (Number (pos n) ∷ []) ∷ []

abbrev sum_above_nothing : Scalar
sum_above_nothing = Compare comparisons.Greater (Add (Column 0) (Column 1)) (Const (Number (pos 0)))

abbrev great : ℕ
great = 999999999999999999

pub known_old : joined sum_above_nothing (bag_of (one_cell great)) (bag_of (one_cell 0))
    ≡ Some (bag_of ((Number (pos great) ∷ Number (pos 0) ∷ []) ∷ []))
unfolding val
known_old = joined-listed sum_above_nothing (one_cell great) (one_cell 0)

pub known_new : joined sum_above_nothing (bag_of (one_cell 0)) (bag_of (one_cell 1))
    ≡ Some (bag_of ((Number (pos 0) ∷ Number (pos 1) ∷ []) ∷ []))
unfolding val
known_new = joined-listed sum_above_nothing (one_cell 0) (one_cell 1)

abbrev changed : ℕ → ℕ → Change
changed old new = record { comes = bag_of (one_cell new); goes = bag_of (one_cell old) }

goes_untold : joined sum_above_nothing (bag_of (one_cell great)) (bag_of (one_cell 1)) ≡ None
unfolding val
goes_untold = joined-listed sum_above_nothing (one_cell great) (one_cell 1)

second : (a b : Option Bag) → b ≡ None → sided a b ≡ None
second None b e = refl
second (Some a) None e = refl
second (Some a) (Some b) e = cc

pub known_three : three sum_above_nothing (bag_of (one_cell great)) (bag_of (one_cell 1)) (changed great 0)
    (changed 0 1) ≡ None
known_three = second _ _ (ap (λ x. beside x (joined sum_above_nothing (bag_of (one_cell great))
    (bag_of (one_cell 0)))) goes_untold)
