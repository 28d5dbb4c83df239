-- How a Join carries changes of its sides.
--     gathered-beside                    what two operations give together
--     joined-left, joined-right          a side in two parts
--     joined-carried                     pairs that stay, pairs with a row that goes, pairs with a row that comes
use Rattle.std.specs.Prelude.{◌≡◌, List, [], ◌∷◌, ◌++◌, Option, Some}
use Rattle.std.proofs.Common.{sym, ap, ◌∙◌}
use Rattle.wh_value.specs.Value.{Row}
use Rattle.wh_meaning.specs.Scalar.{Scalar}
use Rattle.wh_meaning.specs.Bag.{Bag, bag_of, plus, beside, gathered}
use Rattle.wh_meaning.specs.Query.{kept_by, paired_with, joined}
use Rattle.wh_meaning.proofs.Gathered.{beside-turned, beside-assoc, beside-nothing}
use Rattle.wh_meaning.proofs.Gathered.{gathered-no_rows, gathered-with_row, gathered-plus}
use Rattle.wh_moves.proofs.Gathering.{by_rows, gathered-same}
use Rattle.wh_maintenance.specs.Turn.{IsTurn}
use Rattle.wh_maintenance.specs.Carried.{Change, IsCarried}
use Rattle.wh_maintenance.specs.Delta.{meets, joined_beside}
use Rattle.wh_maintenance.proofs.Sides.{carried_as, beside-comm}

crossed : (a b c d : Option Bag) → beside (beside a b) (beside c d) ≡ beside (beside a c) (beside b d)
crossed a b c d =
    beside-assoc a b (beside c d) ∙ ap (beside a) (beside-turned b c d) ∙ sym (beside-assoc a c (beside b d))

beside_list : (f g : Row → Option Bag) (rows : List Row)
    → gathered (λ row. beside (f row) (g row)) (bag_of rows)
    ≡ beside (gathered f (bag_of rows)) (gathered g (bag_of rows))
beside_list f g [] =
    gathered-no_rows (λ row. beside (f row) (g row))
    ∙ sym (beside-nothing _)
    ∙ ap (beside (Some _)) (sym (gathered-no_rows g))
    ∙ ap (λ a. beside a (gathered g (bag_of []))) (sym (gathered-no_rows f))
beside_list f g (row ∷ rows) =
    gathered-with_row (λ row. beside (f row) (g row)) row (bag_of rows)
    ∙ ap (beside (beside (f row) (g row))) (beside_list f g rows)
    ∙ crossed (f row) (g row) (gathered f (bag_of rows)) (gathered g (bag_of rows))
    ∙ ap (λ a. beside a (beside (g row) (gathered g (bag_of rows)))) (sym (gathered-with_row f row (bag_of rows)))
    ∙ ap (beside (gathered f (bag_of (row ∷ rows)))) (sym (gathered-with_row g row (bag_of rows)))

pub gathered-beside : (f g : Row → Option Bag) (b : Bag)
    → gathered (λ row. beside (f row) (g row)) b ≡ beside (gathered f b) (gathered g b)
gathered-beside f g =
    by_rows (λ b. gathered (λ row. beside (f row) (g row)) b ≡ beside (gathered f b) (gathered g b)) (beside_list f g)

pub joined-left : (on : Scalar) (a b right : Bag)
    → joined on (plus a b) right ≡ beside (joined on a right) (joined on b right)
joined-left on a b right = gathered-plus (paired_with on right) a b

pub joined-right : (on : Scalar) (left a b : Bag)
    → joined on left (plus a b) ≡ beside (joined on left a) (joined on left b)
joined-right on left a b =
    gathered-same (paired_with on (plus a b)) (λ l. beside (paired_with on a l) (paired_with on b l))
    (λ l. gathered-plus (λ r. kept_by on (l ++ r)) a b) left
    ∙ gathered-beside (paired_with on a) (paired_with on b) left

pub joined-parts : (on : Scalar) (left stays part right held other : Bag) → left ≡ plus stays part
    → right ≡ plus held other → joined on left right ≡ beside (joined on stays held) (meets on stays held part other)
joined-parts on left stays part right held other l r =
    ap (λ x. joined on x right) l
    ∙ ap (joined on (plus stays part)) r
    ∙ joined-left on stays part (plus held other)
    ∙ ap (λ x. beside x (joined on part (plus held other))) (joined-right on stays held other)
    ∙ ap (beside (beside (joined on stays held) (joined on stays other))) (joined-right on part held other)
    ∙ beside-assoc (joined on stays held) (joined on stays other) (beside (joined on part held) (joined on part other))

pub joined-carried : (on : Scalar) (a a' b b' o : Bag) (c d : Change) (left : IsTurn a a' c.comes c.goes)
    (right : IsTurn b b' d.comes d.goes) → joined on a b ≡ Some o
    → IsCarried o (joined on a' b') (joined_beside on left.stays right.stays c d)
joined-carried on a a' b b' o c d left right e =
    carried_as o (joined on left.stays right.stays) (meets on left.stays right.stays c.goes d.goes)
    (meets on left.stays right.stays c.comes d.comes) (joined on a b) (joined on a' b')
    (joined-parts on a left.stays c.goes b right.stays d.goes left.was right.was)
    (joined-parts on a' left.stays c.comes b' right.stays d.comes left.is right.is) e

-- ---- the change with all left rows of before and all right rows of afterwards

-- where all parts are there: what comes and what goes, not yet netted
pub joined-three : (on : Scalar) (a a' b b' : Bag) (c d : Change) → IsTurn a a' c.comes c.goes
    → IsTurn b b' d.comes d.goes
    → beside (joined on a' b') (beside (joined on c.goes b') (joined on a d.goes))
    ≡ beside (joined on a b) (beside (joined on c.comes b') (joined on a d.comes))
joined-three on a a' b b' c d left right =
    let s = joined on left.stays b' in let g = joined on c.goes b' in let m = joined on c.comes b' in
    let x = joined on a right.stays in let y = joined on a d.comes in let z = joined on a d.goes in
    let new : joined on a' b' ≡ beside s m = ap (λ l. joined on l b') left.is ∙ joined-left on left.stays c.comes b' in
    let old : joined on a b ≡ beside x z = ap (joined on a) right.was ∙ joined-right on a right.stays d.goes in
    let mid : beside s g ≡ beside x y =
    sym (joined-left on left.stays c.goes b') ∙ ap (λ l. joined on l b') (sym left.was)
    ∙ ap (joined on a) right.is ∙ joined-right on a right.stays d.comes in
    ap (λ n. beside n (beside g z)) new
    ∙ crossed s m g z
    ∙ ap (λ n. beside n (beside m z)) mid
    ∙ crossed x y m z
    ∙ ap (beside (beside x m)) (beside-comm y z)
    ∙ crossed x m z y
    ∙ ap (λ o. beside o (beside m y)) (sym old)
