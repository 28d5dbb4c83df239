-- What is found of a query whose groups are kept.
--     side_none, range_none, above_none     where nothing is found it has no rows afterwards
--     kept_found                            else the net change of its rows, and the entries that lead to its groups
use Rattle.std.specs.Prelude.{◌≡◌, ◌+◌, List, ◌∷◌, Option, Some, None}
use Rattle.std.proofs.Common.{arith, refl, sym, ap, subst, ◌∙◌, inl, inr}
use Rattle.wh_value.specs.Value.{Row}
use Rattle.wh_frame.specs.Partition.{Partition}
use Rattle.wh_part.specs.declared.meta.PartMeta.{PartMeta}
use Rattle.wh_filed.specs.Filed.{Filed}
use Rattle.wh_filed.specs.Fetching.{AllShownBy}
use Rattle.wh_meaning.specs.Scalar.{Scalar, of_one}
use Rattle.wh_meaning.specs.Bag.{Bag, bag_of, count}
use Rattle.wh_meaning.specs.BagChange.{IsNet}
use Rattle.wh_meaning.specs.Query.{Query, Instance, eval}
use Rattle.wh_meaning.proofs.BagLaws.{count-plus}
use Rattle.wh_maintenance.specs.Turn.{IsTurn}
use Rattle.wh_maintenance.specs.Carried.{Change, sided, IsCarried}
use Rattle.wh_maintenance.specs.Delta.{Sources, AreTurns}
use Rattle.wh_maintenance.specs.Above.{Grouping, grouping, above}
use Rattle.wh_maintenance.specs.Standing.{Groups, IsGroupsOf, IsMovedTo}
use Rattle.wh_maintenance.specs.Entries.{set_all, groups_of, groups_over, entries_between}
use Rattle.wh_maintenance.proofs.Turns.{changed_of_turn, net_of_sides}
use Rattle.wh_maintenance.proofs.LinearQuery.{linear-carries}
use Rattle.wh_maintenance.proofs.GroupsOf.{groups_are, groups_found}
use Rattle.wh_maintenance.proofs.Between.{between_alone}
use Rattle.wh_maintenance.proofs.KeptTable.{grouping_is, kept-carried, lacks_key, lacks_argument, none_below, none_found}
use Rattle.wh_group.specs.declared.settling.Updated.{Updated}
use Rattle.wh_group.specs.Updates.{change_of, StandIn, IsUpdated, LeavesNone}
use Rattle.wh_delta.specs.declared.moves.Moves.{Moves}
use Rattle.wh_delta.specs.declared.kept.KeptChange.{KeptChange}
use Rattle.wh_delta.specs.Moves.{change_of as change_in}
use Rattle.wh_delta.specs.Kept.{FindsKept, Keeps}

-- ---- bags

groups_before : (g : Grouping) (found : Option Bag) (groups : Groups)
    → of_one (groups_of g.by g.calls) found ≡ Some groups
    → (b : Bag) × ((found ≡ Some b) × IsGroupsOf g.by g.calls b groups)
groups_before g None groups e = cc
groups_before g (Some b) groups e = (b, (refl, groups_are g.by g.calls b groups e))

nothing_left : (old : Bag) (now : Option Bag) → IsCarried old now None → now ≡ None
nothing_left old None h = refl
nothing_left old (Some new) h = absurd h

turned : (old : Bag) (now : Option Bag) (c : Change) → IsCarried old now (Some c)
    → (new : Bag) × ((now ≡ Some new) × IsTurn old new c.comes c.goes)
turned old None c h = absurd h
turned old (Some new) c h = (new, (refl, h))

-- a row that goes was there
goes_stand : (old new comes goes : Bag) → IsTurn old new comes goes → StandIn goes old
goes_stand old new comes goes turn row some =
    let was : count old row ≡ count turn.stays row + count goes row =
    ap (λ b. count b row) turn.was ∙ count-plus turn.stays goes row in
    omega arith

-- ---- what is found

none_kept : (was : Bag) (now : Option Bag) (groups : Groups) (after : Option Groups) → now ≡ None
    → FindsKept was now groups after None
none_kept was now groups after none = subst (λ n. FindsKept was n groups after None) (sym none) tt

change_kept : (was : Bag) (now : Option Bag) (groups after : Groups) (c : Change) (found : KeptChange)
    → IsCarried was now (Some c) → IsNet c.goes c.comes found.rows.plus found.rows.minus
    → found.entries.items ≡ entries_between groups after → FindsKept was now groups (Some after) (Some found)
change_kept was None groups after c found h net leads = absurd h
change_kept was (Some new) groups after c found h net leads = (
  net_of_sides was new c.comes c.goes found.rows.plus found.rows.minus
      (changed_of_turn was new c.comes c.goes h) net,
  leads,
)

-- ---- the query

module _ (q : Query) (g : Grouping) (is : grouping q ≡ Some g) (s : Sources) (groups : Groups) where
  abbrev Finds : Option KeptChange → Type 0
  Finds found = (new : Instance) (was : Bag) (e : Scalar) (es : List Scalar) → g.by ≡ e ∷ es → AreTurns s new
      → eval q s.old ≡ Some was → groups_over s.old g ≡ Some groups
      → FindsKept was (eval q new) groups (groups_over new g) found

  -- it has one Group
  keeps : (found : Option KeptChange) → Finds found → Keeps q s groups found
  keeps found finds = record {
    leads = λ new turns. record {
      finds = λ was h e es h_is keyed was_is kept.
          let both : Some g ≡ Some h = sym is ∙ h_is in
          let same : g ≡ h = cc in
          subst (λ h. h.by ≡ e ∷ es → groups_over s.old h ≡ Some groups
          → FindsKept was (eval q new) groups (groups_over new h) found) same
          (λ keyed kept. finds new was e es keyed turns was_is kept) keyed kept;
    };
  }

  module _ (new : Instance) (was : Bag) (e : Scalar) (es : List Scalar) (keyed : g.by ≡ e ∷ es) (turns : AreTurns s new)
      (was_is : eval q s.old ≡ Some was) (kept : groups_over s.old g ≡ Some groups) where
    old_below : (b : Bag) × ((eval g.below s.old ≡ Some b) × IsGroupsOf g.by g.calls b groups)
    old_below = groups_before g (eval g.below s.old) groups kept

    below_carried : (found : Option Change) → sided (eval g.below s.comes) (eval g.below s.goes) ≡ found
        → IsCarried old_below.0 (eval g.below new) found
    below_carried found found_is =
        subst (IsCarried old_below.0 (eval g.below new)) found_is
        ((linear-carries g.below s (grouping_is q g is).1).leads new old_below.0 turns old_below.1.0)

    missing : sided (eval g.below s.comes) (eval g.below s.goes) ≡ None → eval q new ≡ None
    missing none =
        none_below q g is new (nothing_left old_below.0 (eval g.below new) (below_carried None none))

    module _ (c : Change) (c_is : sided (eval g.below s.comes) (eval g.below s.goes) ≡ Some c) where
      new_below : (b : Bag) × ((eval g.below new ≡ Some b) × IsTurn old_below.0 b c.comes c.goes)
      new_below = turned old_below.0 (eval g.below new) c (below_carried (Some c) c_is)

      none_left : LeavesNone g.by g.calls c groups → eval q new ≡ None
      none_left (inl lacks) = lacks_key q g is s.old new old_below.0 new_below.0 old_below.1.0 new_below.1.0 e es keyed c
          new_below.1.1 was was_is lacks
      none_left (inr (inl lacks)) = lacks_argument q g is s.old new old_below.0 new_below.0 old_below.1.0
          new_below.1.0 e es keyed c new_below.1.1 was was_is lacks
      none_left (inr (inr to)) = none_found q g is s.old new old_below.0 new_below.0 old_below.1.0 new_below.1.0 e es
          keyed c new_below.1.1 was was_is groups to.0 old_below.1.1 to.1

      moved : (after : Groups) (found : Option Change) → IsMovedTo g.by g.calls c groups after found
          → IsGroupsOf g.by g.calls new_below.0 after × IsCarried was (eval q new) (above q found)
      moved after found to = kept-carried q g is s.old new old_below.0 new_below.0 old_below.1.0 new_below.1.0 e es keyed
          c new_below.1.1 was was_is groups after found old_below.1.1 to

      groups_now : (after : Groups) → IsGroupsOf g.by g.calls new_below.0 after → groups_over new g ≡ Some after
      groups_now after are =
          ap (of_one (groups_of g.by g.calls)) new_below.1.0 ∙ groups_found g.by g.calls new_below.0 after are

  pub side_none : sided (eval g.below s.comes) (eval g.below s.goes) ≡ None → Keeps q s groups None
  side_none none = keeps None (λ new was e es keyed turns was_is kept.
      none_kept was (eval q new) groups (groups_over new g) (missing new was e es keyed turns was_is kept none))

  module _ (c : Change) (c_is : sided (eval g.below s.comes) (eval g.below s.goes) ≡ Some c) where
    pub range_none : ((b : Bag) → IsGroupsOf g.by g.calls b groups → StandIn c.goes b
        → LeavesNone g.by g.calls c groups) → Keeps q s groups None
    range_none leaves = keeps None (λ new was e es keyed turns was_is kept.
        let b = old_below new was e es keyed turns was_is kept in
        let b' = new_below new was e es keyed turns was_is kept c c_is in
        none_kept was (eval q new) groups (groups_over new g)
        (none_left new was e es keyed turns was_is kept c c_is
        (leaves b.0 b.1.1 (goes_stand b.0 b'.0 c.comes c.goes b'.1.1))))

    module _ (u : Updated) (updated : IsUpdated g.by g.calls c groups u) where
      pub above_none : None ≡ above q (Some (change_of u.comes.items u.goes.items)) → Keeps q s groups None
      above_none none = keeps None (λ new was e es keyed turns was_is kept.
          none_kept was (eval q new) groups (groups_over new g) (nothing_left was (eval q new)
          (subst (IsCarried was (eval q new)) (sym none)
          (moved new was e es keyed turns was_is kept c c_is (set_all u.entries.items groups) _ updated.moved).1)))

      pub kept_found : (m : Moves) (found : KeptChange)
          → Some (change_in m) ≡ above q (Some (change_of u.comes.items u.goes.items))
          → IsNet (bag_of m.goes.items) (bag_of m.comes.items) found.rows.plus found.rows.minus
          → found.entries.items ≡ u.entries.items → Keeps q s groups (Some found)
      kept_found m found above_is net entries = keeps (Some found) (λ new was e es keyed turns was_is kept.
          let after = set_all u.entries.items groups in
          let to = moved new was e es keyed turns was_is kept c c_is after _ updated.moved in
          subst (λ now. FindsKept was (eval q new) groups now (Some found))
          (sym (groups_now new was e es keyed turns was_is kept c c_is after to.0))
          (change_kept was (eval q new) groups after (change_in m) found
          (subst (IsCarried was (eval q new)) (sym above_is) to.1) net
          (entries ∙ between_alone u.entries.items groups after updated.rising updated.changes refl)))

-- ---- as the code has them

pub still_shown : (was now : PartMeta → Option Partition) (filed : List Filed) → now ≡ was → AllShownBy was filed
    → AllShownBy now filed
still_shown was now filed same all =
    subst (λ (contents : PartMeta → Option Partition). AllShownBy contents filed) (sym same) all

pub no_comes : (comes goes : Option Bag) → None ≡ comes → sided comes goes ≡ None
no_comes comes goes none = ap (λ b. sided b goes) (sym none)

pub no_goes : (comes goes : Option Bag) (came : List Row) → Some (bag_of came) ≡ comes → None ≡ goes
    → sided comes goes ≡ None
no_goes comes goes came is none = (λ i. sided (sym is i) (sym none i))

pub both_sides : (comes goes : Option Bag) (came gone lent lent' : List Row) → Some (bag_of came) ≡ comes
    → Some (bag_of gone) ≡ goes → lent ≡ came → lent' ≡ gone → sided comes goes ≡ Some (change_of lent lent')
both_sides comes goes came gone lent lent' c g l l' =
    (λ i. sided (sym c i) (sym g i)) ∙ (λ i. Some (change_of (sym l i) (sym l' i)))
