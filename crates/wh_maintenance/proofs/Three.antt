-- A Join's change from all left rows of before and all right rows of afterwards: where its condition has no arithmetic.
--     joined_plain       a Join by such a condition has a bag
--     three              both sides
--     three-changes      they lead from the old bag to the new one, but needn't lie in them: net them
use Rattle.std.specs.Prelude.{◌≡◌, false, List, [], ◌∷◌, ◌++◌, Option, Some, None}
use Rattle.std.proofs.Common.{arith, sym, ap, subst}
use Rattle.wh_value.specs.Value.{Row}
use Rattle.wh_meaning.specs.Scalar.{Scalar, has_arithmetic}
use Rattle.wh_meaning.specs.Bag.{Bag, bag_of, plus, beside, count, gathered}
use Rattle.wh_meaning.specs.BagChange.{IsChanged}
use Rattle.wh_meaning.specs.Query.{kept_by, paired_with, joined}
use Rattle.wh_meaning.proofs.BagLaws.{count-plus}
use Rattle.wh_meaning.proofs.Gathered.{gathered-no_rows, gathered-with_row}
use Rattle.wh_moves.proofs.Plain.{IsThere, two_there}
use Rattle.wh_moves.proofs.Kept.{kept_plain}
use Rattle.wh_moves.proofs.Gathering.{by_rows}
use Rattle.wh_maintenance.specs.Turn.{IsTurn}
use Rattle.wh_maintenance.specs.Carried.{Change, sided}
use Rattle.wh_maintenance.proofs.Join.{joined-three}

list_there : (f : Row → Option Bag) → ((row : Row) → IsThere (f row)) → (rows : List Row)
    → IsThere (gathered f (bag_of rows))
list_there f there [] = subst IsThere (sym (gathered-no_rows f)) tt
list_there f there (row ∷ rows) = subst IsThere (sym (gathered-with_row f row (bag_of rows)))
    (two_there plus (f row) (gathered f (bag_of rows)) (there row) (list_there f there rows))

pub gathered_there : (f : Row → Option Bag) → ((row : Row) → IsThere (f row)) → (b : Bag) → IsThere (gathered f b)
gathered_there f there = by_rows (λ b. IsThere (gathered f b)) (list_there f there)

pub joined_plain : (on : Scalar) (left right : Bag) → has_arithmetic on ≡ false → IsThere (joined on left right)
joined_plain on left right plain =
    gathered_there (paired_with on right) (λ l. gathered_there (λ r. kept_by on (l ++ r))
    (λ r. subst IsThere (sym (kept_plain on (l ++ r) plain)) tt) right) left

abbrev pub three : Scalar → Bag → Bag → Change → Change → Option Change
three on a b' c d = sided (beside (joined on c.comes b') (joined on a d.comes))
    (beside (joined on c.goes b') (joined on a d.goes))

abbrev pub IsChangeFound : Option Bag → Option Bag → Option Change → Type 0
IsChangeFound (Some old) (Some new) (Some c) = IsChanged old c.comes c.goes new
IsChangeFound _ _ _ = ⊥

found : (new old comes goes : Option Bag) → IsThere new → IsThere old → IsThere comes → IsThere goes
    → beside new goes ≡ beside old comes → IsChangeFound old new (sided comes goes)
found None old comes goes n o c g e = absurd n
found (Some n) None comes goes h o c g e = absurd o
found (Some n) (Some o) None goes h k c g e = absurd c
found (Some n) (Some o) (Some c) None h k l g e = absurd g
found (Some n) (Some o) (Some c) (Some g) h k l m e = λ q.
    let same : plus n g ≡ plus o c = cc in
    let here : count (plus n g) q ≡ count (plus o c) q = ap (λ b. count b q) same in
    let left = count-plus n g q in let right = count-plus o c q in omega arith

pub three-changes : (on : Scalar) (a a' b b' : Bag) (c d : Change) → has_arithmetic on ≡ false
    → IsTurn a a' c.comes c.goes → IsTurn b b' d.comes d.goes
    → IsChangeFound (joined on a b) (joined on a' b') (three on a b' c d)
three-changes on a a' b b' c d plain left right =
    found (joined on a' b') (joined on a b) (beside (joined on c.comes b') (joined on a d.comes))
    (beside (joined on c.goes b') (joined on a d.goes)) (joined_plain on a' b' plain) (joined_plain on a b plain)
    (two_there plus _ _ (joined_plain on c.comes b' plain) (joined_plain on a d.comes plain))
    (two_there plus _ _ (joined_plain on c.goes b' plain) (joined_plain on a d.goes plain))
    (joined-three on a a' b b' c d left right)
