-- The change of a query's bag, by what its operators make of changes.
--     after            what a change leaves
--     joined_change    of a Join; the left rows that stay meet the right rows of the change
--     regrouped        of a Group; the groups of the keys that changed rows have, before and afterwards
--     linear           whether the rows of the sources before count for nothing
--     delta            of a query, from its sources before and their changes; None where it has no bag afterwards
--     Carries          what is found of a query's change leads to its bag over each instance that the sources'
--                      changes lead to
use Rattle.std.specs.Prelude.{◌≡◌, ℕ, zero, suc, Bool, true, false, ◌&&◌, List, [], ◌∷◌, Option, Some, None}
use Rattle.wh_value.specs.Value.{Row}
use Rattle.wh_meaning.specs.Scalar.{Scalar, of_one, of_two}
use Rattle.wh_meaning.specs.Bag.{Bag, count, plus, beside, restricted}
use Rattle.wh_meaning.specs.Query.{Query, Scan, Filter, Project, Join, UnionAll, Group, Call, Instance, source_in}
use Rattle.wh_meaning.specs.Query.{kept_by, image_by, values_on, projected, joined, grouped, eval}
use Rattle.wh_maintenance.specs.Turn.{less, IsTurn}
use Rattle.wh_maintenance.specs.Carried.{Change, sided, carried_over, IsCarried}

abbrev pub after : Bag → Change → Bag
after b c = plus (less b c.goes) c.comes

abbrev pub summed : Change → Change → Change
summed c d = record { comes = plus c.comes d.comes; goes = plus c.goes d.goes }

-- the pairs with a row of a side's part, where rows stay besides
abbrev pub meets : Scalar → Bag → Bag → Bag → Bag → Option Bag
meets on left right l r = beside (joined on left r) (beside (joined on l right) (joined on l r))

abbrev pub joined_beside : Scalar → Bag → Bag → Change → Change → Option Change
joined_beside on left right c d = sided (meets on left right c.comes d.comes) (meets on left right c.goes d.goes)

abbrev pub joined_change : Scalar → Bag → Bag → Change → Change → Option Change
joined_change on a b c d = joined_beside on (less a c.goes) (less b d.goes) c d

-- ---- Group

abbrev pub is_some_of : ℕ → Bool
is_some_of zero = false
is_some_of (suc n) = true

-- whether a key is among keys
abbrev pub is_among : Bag → Row → Bool
is_among ks k = is_some_of (count ks k)

abbrev pub key_among : Bag → Option Row → Bool
key_among ks None = false
key_among ks (Some k) = is_among ks k

-- the rows whose key is among keys
abbrev pub with_keys : List Scalar → Bag → Bag → Bag
with_keys by ks b = restricted (λ row. key_among ks (values_on by row)) b

abbrev pub recounted : List Scalar → List Call → Change → Bag → Option Change
recounted by calls c old = sided (grouped by calls (after old c)) (grouped by calls old)

-- without keys the one group is made anew
abbrev pub regrouped : List Scalar → List Call → Bag → Change → Option Change
regrouped [] calls old c = recounted [] calls c old
regrouped (e ∷ es) calls old c =
    of_two (λ came went. recounted (e ∷ es) calls c (with_keys (e ∷ es) (plus came went) old))
    (projected (e ∷ es) c.comes) (projected (e ∷ es) c.goes)

-- ---- the query

-- the bag of each source before, and what of it comes and goes
pub record Sources : Type 0 where
  pub old : Instance
  pub comes : Instance
  pub goes : Instance

abbrev pub change_in : Sources → ℕ → Change
change_in s place = record { comes = source_in s.comes place; goes = source_in s.goes place }

-- each source's change leads from it to that of the other instance
abbrev pub AreTurns : Sources → Instance → Type 0
AreTurns s new = (place : ℕ)
    → IsTurn (source_in s.old place) (source_in new place) (source_in s.comes place) (source_in s.goes place)

pub record Carries (q : Query) (s : Sources) (found : Option Change) : Type 0 where
  pub leads : (new : Instance) (o : Bag) → AreTurns s new → eval q s.old ≡ Some o → IsCarried o (eval q new) found

unfoldable pub delta : Query → Sources → Option Change
delta (Scan source) s = Some (change_in s source)
delta (Filter q condition) s = of_one (carried_over (kept_by condition)) (delta q s)
delta (Project q items) s = of_one (carried_over (image_by items)) (delta q s)
delta (Join left right on) s =
    of_two (λ a b. of_two (joined_change on a b) (delta left s) (delta right s)) (eval left s.old) (eval right s.old)
delta (UnionAll left right) s = of_two (λ c d. Some (summed c d)) (delta left s) (delta right s)
delta (Group q by calls) s = of_two (regrouped by calls) (eval q s.old) (delta q s)

-- no operators but Scan, Filter, Project and UnionAll
unfoldable pub linear : Query → Bool
linear (Scan source) = true
linear (Filter q condition) = linear q
linear (Project q items) = linear q
linear (Join left right on) = false
linear (UnionAll left right) = linear left && linear right
linear (Group q by calls) = false
