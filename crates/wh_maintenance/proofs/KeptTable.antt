-- A kept table: a query that is one Group over a linear query, with Filter and Project above it.
--     grouping_is              its Group, and that the query below it is linear
--     kept-carried             the groups afterwards, and the change of the query's rows
--     lacks_key, lacks_argument, none_below, none_found     where the query has no rows afterwards
use Rattle.std.specs.Prelude.{◌≡◌, Bool, true, false, if◌then◌else◌, List, ◌∷◌, Option, Some, None}
use Rattle.std.proofs.Common.{refl, sym, ap, subst, ◌∙◌}
use Rattle.wh_meaning.specs.Scalar.{Scalar, of_one}
use Rattle.wh_meaning.specs.Bag.{Bag}
use Rattle.wh_meaning.specs.Query.{Query, Scan, Filter, Project, Join, UnionAll, Group, Call, Instance, filtered}
use Rattle.wh_meaning.specs.Query.{projected, grouped, eval}
use Rattle.wh_maintenance.specs.Turn.{IsTurn}
use Rattle.wh_maintenance.specs.Carried.{Change, IsCarried}
use Rattle.wh_maintenance.specs.Delta.{linear}
use Rattle.wh_maintenance.specs.Above.{Grouping, grouping, group_of, above}
use Rattle.wh_maintenance.specs.Standing.{Groups, IsGroupsOf, IsMovedTo, LacksKey, LacksArgument}
use Rattle.wh_maintenance.proofs.Kept.{above-carried}
use Rattle.wh_maintenance.proofs.Update.{moved-carried, no_key, no_argument}

-- ---- the Group

one_group : (q : Query) (by : List Scalar) (calls : List Call) (g : Grouping) (t : Bool) → linear q ≡ t
    → (if t then Some (record { below = q; by = by; calls = calls }) else None) ≡ Some g
    → (Group q by calls ≡ Group g.below g.by g.calls) × (linear g.below ≡ true)
one_group q by calls g false is e = cc
one_group q by calls g true is e =
    let same : ◌≡◌ {A = Grouping} (record { below = q; by = by; calls = calls }) g = cc in
    (ap (λ g. Group g.below g.by g.calls) same, sym (ap (λ g. linear g.below) same) ∙ is)

pub grouping_is : (q : Query) (g : Grouping) → grouping q ≡ Some g
    → (group_of q ≡ Group g.below g.by g.calls) × (linear g.below ≡ true)
unfolding grouping group_of
grouping_is (Scan source) g e = cc
grouping_is (Filter q condition) g e = grouping_is q g e
grouping_is (Project q items) g e = grouping_is q g e
grouping_is (Join left right on) g e = cc
grouping_is (UnionAll left right) g e = cc
grouping_is (Group q by calls) g e = one_group q by calls g (linear q) refl e

-- ---- its rows

one_there : (f : Bag → Option Bag) (a : Option Bag) (o : Bag) → of_one f a ≡ Some o → (x : Bag) × (a ≡ Some x)
one_there f None o e = cc
one_there f (Some a) o e = (a, refl)

-- where a query has a bag, its Group has one
group_there : (q : Query) (instance : Instance) (o : Bag) → eval q instance ≡ Some o
    → (rows : Bag) × (eval (group_of q) instance ≡ Some rows)
unfolding eval group_of
group_there (Scan source) instance o e = (o, e)
group_there (Filter q condition) instance o e =
    let there = one_there (filtered condition) (eval q instance) o e in group_there q instance there.0 there.1
group_there (Project q items) instance o e =
    let there = one_there (projected items) (eval q instance) o e in group_there q instance there.0 there.1
group_there (Join left right on) instance o e = (o, e)
group_there (UnionAll left right) instance o e = (o, e)
group_there (Group q by calls) instance o e = (o, e)

-- where the Group has none, neither has the query
group_missing : (q : Query) (instance : Instance) → eval (group_of q) instance ≡ None → eval q instance ≡ None
unfolding eval group_of
group_missing (Scan source) instance e = e
group_missing (Filter q condition) instance e = ap (of_one (filtered condition)) (group_missing q instance e)
group_missing (Project q items) instance e = ap (of_one (projected items)) (group_missing q instance e)
group_missing (Join left right on) instance e = e
group_missing (UnionAll left right) instance e = e
group_missing (Group q by calls) instance e = e

group_rows_are : (q : Query) (by : List Scalar) (calls : List Call) (instance : Instance) (found : Option Bag)
    → eval q instance ≡ found → eval (Group q by calls) instance ≡ of_one (grouped by calls) found
unfolding eval
group_rows_are q by calls instance found is = ap (of_one (grouped by calls)) is

none_above : (q : Query) → above q None ≡ None
unfolding above
none_above (Scan source) = refl
none_above (Filter q condition) = ap (of_one _) (none_above q)
none_above (Project q items) = ap (of_one _) (none_above q)
none_above (Join left right on) = refl
none_above (UnionAll left right) = refl
none_above (Group q by calls) = refl

none_carried : (old : Bag) (now : Option Bag) → IsCarried old now None → now ≡ None
none_carried old None h = refl
none_carried old (Some new) h = absurd h

module _ (q : Query) (g : Grouping) (is : grouping q ≡ Some g) where
  -- where the query below the Group has no bag
  pub none_below : (instance : Instance) → eval g.below instance ≡ None → eval q instance ≡ None
  none_below instance none = group_missing q instance
      (ap (λ p. eval p instance) (grouping_is q g is).0 ∙ group_rows_are g.below g.by g.calls instance None none)

  module _ (old new : Instance) (b b' : Bag) (was : eval g.below old ≡ Some b) (now : eval g.below new ≡ Some b') where
    -- what is found of the Group's change is carried to the query's rows
    carried : (o : Bag) → eval q old ≡ Some o → (found : Option Change)
        → ((rows : Bag) → grouped g.by g.calls b ≡ Some rows → IsCarried rows (grouped g.by g.calls b') found)
        → IsCarried o (eval q new) (above q found)
    carried o o_is found h = above-carried q old new found (λ rows rows_are.
        subst (λ x. IsCarried rows x found)
        (sym (ap (λ p. eval p new) (grouping_is q g is).0 ∙ group_rows_are g.below g.by g.calls new (Some b') now))
        (h rows (sym (ap (λ p. eval p old) (grouping_is q g is).0
        ∙ group_rows_are g.below g.by g.calls old (Some b) was) ∙ rows_are))) o o_is

    missing : (o : Bag) → eval q old ≡ Some o
        → ((rows : Bag) → grouped g.by g.calls b ≡ Some rows → IsCarried rows (grouped g.by g.calls b') None)
        → eval q new ≡ None
    missing o o_is h = none_carried o (eval q new)
        (subst (IsCarried o (eval q new)) (none_above q) (carried o o_is None h))

    rows_there : (o : Bag) → eval q old ≡ Some o → (rows : Bag) × (grouped g.by g.calls b ≡ Some rows)
    rows_there o o_is =
        let there = group_there q old o o_is in (
          there.0,
          sym (ap (λ p. eval p old) (grouping_is q g is).0 ∙ group_rows_are g.below g.by g.calls old (Some b) was)
              ∙ there.1,
        )

    module _ (e : Scalar) (es : List Scalar) (keyed : g.by ≡ e ∷ es) (c : Change) (turn : IsTurn b b' c.comes c.goes)
        (o : Bag) (o_is : eval q old ≡ Some o) where
      moved_rows : (groups groups' : Groups) (found : Option Change) → IsGroupsOf g.by g.calls b groups
          → IsMovedTo g.by g.calls c groups groups' found → (rows : Bag) → grouped g.by g.calls b ≡ Some rows
          → IsGroupsOf g.by g.calls b' groups' × IsCarried rows (grouped g.by g.calls b') found
      moved_rows groups groups' found = subst (λ by. IsGroupsOf by g.calls b groups
          → IsMovedTo by g.calls c groups groups' found → (rows : Bag) → grouped by g.calls b ≡ Some rows
          → IsGroupsOf by g.calls b' groups' × IsCarried rows (grouped by g.calls b') found) (sym keyed)
          (λ h to rows rows_are. moved-carried e es g.calls b b' rows c turn rows_are groups groups' found h to)

      pub kept-carried : (groups groups' : Groups) (found : Option Change) → IsGroupsOf g.by g.calls b groups
          → IsMovedTo g.by g.calls c groups groups' found
          → IsGroupsOf g.by g.calls b' groups' × IsCarried o (eval q new) (above q found)
      kept-carried groups groups' found h to =
          let there = rows_there o o_is in (
            (moved_rows groups groups' found h to there.0 there.1).0,
            carried o o_is found (λ rows rows_are. (moved_rows groups groups' found h to rows rows_are).1),
          )

      -- where a group afterwards shows no row
      pub none_found : (groups groups' : Groups) → IsGroupsOf g.by g.calls b groups
          → IsMovedTo g.by g.calls c groups groups' None → eval q new ≡ None
      none_found groups groups' h to = none_carried o (eval q new)
          (subst (IsCarried o (eval q new)) (none_above q) (kept-carried groups groups' None h to).1)

      pub lacks_key : LacksKey g.by c → eval q new ≡ None
      lacks_key lacks = missing o o_is (subst (λ by. LacksKey by c → (rows : Bag)
          → grouped by g.calls b ≡ Some rows → IsCarried rows (grouped by g.calls b') None) (sym keyed)
          (λ lacks rows rows_are. no_key e es g.calls b b' rows c turn rows_are lacks) lacks)

      pub lacks_argument : LacksArgument g.by g.calls c → eval q new ≡ None
      lacks_argument lacks = missing o o_is (subst (λ by. LacksArgument by g.calls c → (rows : Bag)
          → grouped by g.calls b ≡ Some rows → IsCarried rows (grouped by g.calls b') None) (sym keyed)
          (λ lacks rows rows_are. no_argument e es g.calls b b' rows c turn rows_are lacks) lacks)
