-- Operators that work row by row, and sums.
--     gathered-carried     what each row of a bag gives
--     plus-turn            the sum of two bags
use Rattle.std.specs.Prelude.{◌≡◌, Option, Some}
use Rattle.std.proofs.Common.{arith, ap, ◌∙◌}
use Rattle.wh_value.specs.Value.{Row}
use Rattle.wh_meaning.specs.Scalar.{Scalar}
use Rattle.wh_meaning.specs.Bag.{Bag, plus, gathered}
use Rattle.wh_meaning.specs.Query.{kept_by, filtered}
use Rattle.wh_meaning.proofs.BagLaws.{bag_of_same, count-plus}
use Rattle.wh_meaning.proofs.Gathered.{gathered-plus}
use Rattle.wh_maintenance.specs.Turn.{IsTurn}
use Rattle.wh_maintenance.specs.Carried.{Change, IsCarried, carried_over}
use Rattle.wh_maintenance.proofs.Sides.{carried_as}

pub gathered-carried : (f : Row → Option Bag) (old new o : Bag) (c : Change) → IsTurn old new c.comes c.goes
    → gathered f old ≡ Some o → IsCarried o (gathered f new) (carried_over f c)
gathered-carried f old new o c turn e =
    carried_as o (gathered f turn.stays) (gathered f c.goes) (gathered f c.comes) (gathered f old) (gathered f new)
    (ap (gathered f) turn.was ∙ gathered-plus f turn.stays c.goes)
    (ap (gathered f) turn.is ∙ gathered-plus f turn.stays c.comes) e

pub filtered-carried : (condition : Scalar) (old new o : Bag) (c : Change) → IsTurn old new c.comes c.goes
    → filtered condition old ≡ Some o → IsCarried o (filtered condition new) (carried_over (kept_by condition) c)
filtered-carried condition = gathered-carried (kept_by condition)

interchange : (a b c d : Bag) → plus (plus a b) (plus c d) ≡ plus (plus a c) (plus b d)
interchange a b c d = bag_of_same _ _ (λ q.
    let ab = count-plus a b q in let cd = count-plus c d q in let l = count-plus (plus a b) (plus c d) q in
    let ac = count-plus a c q in let bd = count-plus b d q in let r = count-plus (plus a c) (plus b d) q in omega arith)

pub plus-turn : (a a' b b' : Bag) (c d : Change) → IsTurn a a' c.comes c.goes → IsTurn b b' d.comes d.goes
    → IsTurn (plus a b) (plus a' b') (plus c.comes d.comes) (plus c.goes d.goes)
plus-turn a a' b b' c d left right = record {
  stays = plus left.stays right.stays;
  was = ap (λ x. plus x b) left.was ∙ ap (plus (plus left.stays c.goes)) right.was
      ∙ interchange left.stays c.goes right.stays d.goes;
  is = ap (λ x. plus x b') left.is ∙ ap (plus (plus left.stays c.comes)) right.is
      ∙ interchange left.stays c.comes right.stays d.comes;
}
