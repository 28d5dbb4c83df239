-- What the code finds at an operator is carried through it.
--     net_carried                        the net of what is found of a linear query
--     filter_arm, project_arm, ..        by operator, from what is found of its inputs
--     filter_none, project_none, ..      where nothing is found of an input
use Rattle.std.specs.Prelude.{◌≡◌, ℕ, true, List, Option, Some, None, Result, Ok, Err, IfOk}
use Rattle.std.proofs.Common.{refl, sym, ap, subst, ◌∙◌}
use Rattle.wh_frame.specs.Partition.{Partition}
use Rattle.wh_part.specs.declared.meta.PartMeta.{PartMeta}
use Rattle.wh_fetch.specs.declared.fault.FetchFault.{FetchFault}
use Rattle.wh_filed.proofs.FetchingLaws.{still_covered as covered_on}
use Rattle.wh_exec.specs.Source.{filed_in}
use Rattle.wh_meaning.specs.Scalar.{Scalar, of_two}
use Rattle.wh_meaning.specs.Bag.{Bag, bag_of}
use Rattle.wh_meaning.specs.Query.{Query, Scan, Filter, Project, Join, UnionAll, Group, Call, kept_by, image_by, eval}
use Rattle.wh_maintenance.specs.Carried.{Change, sided, carried_over}
use Rattle.wh_maintenance.specs.Delta.{Sources, linear, summed, joined_change, regrouped, Carries, delta}
use Rattle.wh_maintenance.proofs.Carrying.{carries-filter, carries-project, carries-join, carries-union}
use Rattle.wh_maintenance.proofs.Carrying.{carries-group, carries-net}
use Rattle.wh_maintenance.proofs.Delta.{delta-carries}
use Rattle.wh_maintenance.proofs.LinearQuery.{linear-carries}
use Rattle.wh_delta.specs.declared.moves.Moves.{Moves}
use Rattle.wh_delta.specs.declared.moves.Turned.{Turned}
use Rattle.wh_delta.specs.declared.moves.Changing.{Changing}
use Rattle.wh_delta.specs.Moves.{change_of, change_found, NetsTo, Turns, AreCovered, AreShown}

netted : (q : Query) (s : Sources) (what : Option Change) (found : Option Moves) → Carries q s what → NetsTo what found
    → Carries q s (change_found found)
netted q s None None h n = h
netted q s None (Some m) h n = absurd n
netted q s (Some c) None h n = absurd n
netted q s (Some c) (Some m) h n = carries-net s q c (bag_of m.comes.items) (bag_of m.goes.items) h n

pub net_carried : (q : Query) (s : Sources) (found : Option Moves) → linear q ≡ true
    → NetsTo (sided (eval q s.comes) (eval q s.goes)) found → Carries q s (change_found found)
net_carried q s found e n = netted q s (sided (eval q s.comes) (eval q s.goes)) found (linear-carries q s e) n

none_left : (F : Bag → Bag → Change → Change → Option Change) (a b : Option Bag) (d : Option Change)
    → of_two (λ x y. of_two (F x y) None d) a b ≡ None
none_left F None b d = refl
none_left F (Some a) None d = refl
none_left F (Some a) (Some b) d = refl

none_right : (F : Bag → Bag → Change → Change → Option Change) (a b : Option Bag) (c : Change)
    → of_two (λ x y. of_two (F x y) (Some c) None) a b ≡ None
none_right F None b c = refl
none_right F (Some a) None c = refl
none_right F (Some a) (Some b) c = refl

both_there : (F : Bag → Bag → Change → Change → Option Change) (a b : Option Bag) (c d : Change) (x y : Bag)
    → a ≡ Some x → b ≡ Some y → of_two (λ x y. of_two (F x y) (Some c) (Some d)) a b ≡ F x y c d
both_there F a b c d x y e f = (λ i. of_two (λ x y. of_two (F x y) (Some c) (Some d)) (e i) (f i))

nothing : (a : Option Bag) (o : Bag) → a ≡ None → a ≡ Some o → ⊥
nothing None o n e = cc
nothing (Some a) o n e = cc

no_change : (F : Bag → Change → Option Change) (a : Option Bag) → of_two F a None ≡ None
no_change F None = refl
no_change F (Some a) = refl

module _ (s : Sources) where
  pub filter_none : (q : Query) (e : Scalar) → Carries q s None → Carries (Filter q e) s None
  filter_none q e h = carries-filter s q e None h

  pub filter_arm : (q : Query) (e : Scalar) (c : Change) (found : Option Change) → Carries q s (Some c)
      → found ≡ carried_over (kept_by e) c → Carries (Filter q e) s found
  filter_arm q e c found h is = subst (Carries (Filter q e) s) (sym is) (carries-filter s q e (Some c) h)

  pub project_none : (q : Query) (es : List Scalar) → Carries q s None → Carries (Project q es) s None
  project_none q es h = carries-project s q es None h

  pub project_arm : (q : Query) (es : List Scalar) (c : Change) (found : Option Change) → Carries q s (Some c)
      → found ≡ carried_over (image_by es) c → Carries (Project q es) s found
  project_arm q es c found h is = subst (Carries (Project q es) s) (sym is) (carries-project s q es (Some c) h)

  pub union_none_left : (p q : Query) → Carries p s None → Carries (UnionAll p q) s None
  union_none_left p q h = carries-union s p q None (delta q s) h (delta-carries s q)

  pub union_none_right : (p q : Query) (c : Change) → Carries p s (Some c) → Carries q s None
      → Carries (UnionAll p q) s None
  union_none_right p q c h k = carries-union s p q (Some c) None h k

  pub union_arm : (p q : Query) (c d e : Change) → Carries p s (Some c) → Carries q s (Some d) → e ≡ summed c d
      → Carries (UnionAll p q) s (Some e)
  union_arm p q c d e h k is =
      subst (λ x. Carries (UnionAll p q) s (Some x)) (sym is) (carries-union s p q (Some c) (Some d) h k)

  pub join_none_left : (p q : Query) (on : Scalar) → Carries p s None → Carries (Join p q on) s None
  join_none_left p q on h = subst (Carries (Join p q on) s)
      (none_left (joined_change on) (eval p s.old) (eval q s.old) (delta q s))
      (carries-join s p q on None (delta q s) h (delta-carries s q))

  pub join_none_right : (p q : Query) (on : Scalar) (t : Turned) → Turns p s (Some t) → Carries q s None
      → Carries (Join p q on) s None
  join_none_right p q on t h k = subst (Carries (Join p q on) s)
      (none_right (joined_change on) (eval p s.old) (eval q s.old) (change_of t.moves))
      (carries-join s p q on (Some (change_of t.moves)) None h.1 k)

  pub join_arm : (p q : Query) (on : Scalar) (t u : Turned) (found : Option Change) → Turns p s (Some t)
      → Turns q s (Some u) → found ≡ joined_change on (bag_of t.old.items) (bag_of u.old.items) (change_of t.moves)
      (change_of u.moves) → Carries (Join p q on) s found
  join_arm p q on t u found h k is = subst (Carries (Join p q on) s)
      (both_there (joined_change on) (eval p s.old) (eval q s.old) (change_of t.moves) (change_of u.moves) _ _ h.0 k.0
      ∙ sym is)
      (carries-join s p q on (Some (change_of t.moves)) (Some (change_of u.moves)) h.1 k.1)

  pub group_none : (q : Query) (by : List Scalar) (calls : List Call) → Carries q s None
      → Carries (Group q by calls) s None
  group_none q by calls h = subst (Carries (Group q by calls) s) (no_change (regrouped by calls) (eval q s.old))
      (carries-group s q by calls None h)

  pub group_arm : (q : Query) (by : List Scalar) (calls : List Call) (t : Turned) (found : Option Change)
      → Turns q s (Some t) → found ≡ regrouped by calls (bag_of t.old.items) (change_of t.moves)
      → Carries (Group q by calls) s found
  group_arm q by calls t found h is = subst (Carries (Group q by calls) s)
      (ap (λ a. of_two (regrouped by calls) a (Some (change_of t.moves))) h.0 ∙ sym is)
      (carries-group s q by calls (Some (change_of t.moves)) h.1)

  -- a query without rows before may have any change
  pub nothing_before : (q : Query) → eval q s.old ≡ None → Carries q s None
  nothing_before q none = record { leads = λ new o turns e. absurd (nothing (eval q s.old) o none e) }

-- ---- as the code has them

pub net_arm : (q : Query) (s : Sources) (r : Result (Option Moves) FetchFault) → linear q ≡ true
    → IfOk r (NetsTo (sided (eval q s.comes) (eval q s.goes))) → IfOk r (λ found. Carries q s (change_found found))
net_arm q s (Ok found) e n = net_carried q s found e n
net_arm q s (Err fault) e n = tt

scan_linear : (source : ℕ) → linear (Scan source) ≡ true
unfolding linear
scan_linear source = refl

pub still_shown : (was now : PartMeta → Option Partition) (s : Changing) → now ≡ was → AreShown was s → AreShown now s
still_shown was now s same all = subst (λ (contents : PartMeta → Option Partition). AreShown contents s) (sym same) all

pub still_covered : (was now : PartMeta → Type 0) (s : Changing) → ((part : PartMeta) → was part → now part)
    → AreCovered was s → AreCovered now s
still_covered was now s on all = record {
  old = covered_on was now (filed_in s.old.now) on all.old;
  comes = covered_on was now (filed_in s.comes.now) on all.comes;
  goes = covered_on was now (filed_in s.goes.now) on all.goes;
}

pub scan_arm : (q : Query) (source : ℕ) (s : Sources) (r : Result (Option Moves) FetchFault) → q ≡ Scan source
    → IfOk r (NetsTo (sided (eval q s.comes) (eval q s.goes)))
    → IfOk r (λ found. Carries (Scan source) s (change_found found))
scan_arm q source s r is n = subst (λ x. IfOk r (λ found. Carries x s (change_found found))) is
    (net_arm q s r (ap linear is ∙ scan_linear source) n)
