-- A change that is carried through an operator, from what is found of its inputs.
--     carries-scan, carries-filter, carries-project, carries-join, carries-union, carries-group     by operator
--     carries-net                     the net of a change that is carried is carried
use Rattle.std.specs.Prelude.{◌≡◌, ℕ, List, Option, Some, None}
use Rattle.std.proofs.Common.{refl, subst}
use Rattle.wh_meaning.specs.Scalar.{Scalar, of_one, of_two}
use Rattle.wh_meaning.specs.Bag.{Bag, plus}
use Rattle.wh_meaning.specs.BagChange.{IsNet}
use Rattle.wh_meaning.specs.Query.{Query, Scan, Filter, Project, Join, UnionAll, Group, Call, source_in}
use Rattle.wh_meaning.specs.Query.{kept_by, image_by, filtered, projected, joined, grouped, eval}
use Rattle.wh_maintenance.specs.Turn.{less, IsTurn}
use Rattle.wh_maintenance.specs.Carried.{Change, IsCarried, carried_over}
use Rattle.wh_maintenance.specs.Delta.{summed, joined_beside, joined_change, regrouped, Sources, change_in}
use Rattle.wh_maintenance.specs.Delta.{Carries}
use Rattle.wh_maintenance.proofs.Turns.{rest_stays, turns_to, changed_of_turn, net_of_sides, turn_of_net}
use Rattle.wh_maintenance.proofs.Linear.{gathered-carried, plus-turn}
use Rattle.wh_maintenance.proofs.Join.{joined-carried}
use Rattle.wh_maintenance.proofs.Regroup.{regrouped-carried}

least : (old new : Bag) (c : Change) → IsTurn old new c.comes c.goes → (x : IsTurn old new c.comes c.goes)
    × (x.stays ≡ less old c.goes)
least old new c turn = (
  record {
    stays = less old c.goes;
    was = rest_stays old new c.comes c.goes turn;
    is = turns_to old new c.comes c.goes turn;
  },
  refl,
)

join_carried : (on : Scalar) (a a' b b' o : Bag) (c d : Change) → IsTurn a a' c.comes c.goes
    → IsTurn b b' d.comes d.goes → joined on a b ≡ Some o → IsCarried o (joined on a' b') (joined_change on a b c d)
join_carried on a a' b b' o c d left right e =
    let l = least a a' c left in
    let r = least b b' d right in
    subst (λ x. IsCarried o (joined on a' b') (joined_beside on x (less b d.goes) c d)) l.1
    (subst (λ x. IsCarried o (joined on a' b') (joined_beside on l.0.stays x c d)) r.1
    (joined-carried on a a' b b' o c d l.0 r.0 e))

-- ---- an operator over what its inputs carry

abbrev pub CarriesOne : (Bag → Option Bag) → (Bag → Change → Option Change) → Type 0
CarriesOne F G = (a a' o : Bag) (c : Change) → IsTurn a a' c.comes c.goes → F a ≡ Some o → IsCarried o (F a') (G a c)

abbrev CarriesTwo : (Bag → Bag → Option Bag) → (Bag → Bag → Change → Change → Option Change) → Type 0
CarriesTwo F G = (a a' b b' o : Bag) (c d : Change) → IsTurn a a' c.comes c.goes → IsTurn b b' d.comes d.goes
    → F a b ≡ Some o → IsCarried o (F a' b') (G a b c d)

one : (F : Bag → Option Bag) (G : Bag → Change → Option Change) → CarriesOne F G → (before now : Option Bag)
    (found : Option Change) → ((a : Bag) → before ≡ Some a → IsCarried a now found) → (o : Bag)
    → of_one F before ≡ Some o → IsCarried o (of_one F now) (of_two G before found)
one F G law None now found ih o e = cc
one F G law (Some a) None None ih o e = tt
one F G law (Some a) None (Some c) ih o e = absurd (ih a refl)
one F G law (Some a) (Some a') None ih o e = absurd (ih a refl)
one F G law (Some a) (Some a') (Some c) ih o e = law a a' o c (ih a refl) e

pub one_alone : (F : Bag → Option Bag) (G : Change → Option Change) → CarriesOne F (λ a c. G c)
    → (before now : Option Bag) (found : Option Change)
    → ((a : Bag) → before ≡ Some a → IsCarried a now found) → (o : Bag) → of_one F before ≡ Some o
    → IsCarried o (of_one F now) (of_one G found)
one_alone F G law None now found ih o e = cc
one_alone F G law (Some a) None None ih o e = tt
one_alone F G law (Some a) None (Some c) ih o e = absurd (ih a refl)
one_alone F G law (Some a) (Some a') None ih o e = absurd (ih a refl)
one_alone F G law (Some a) (Some a') (Some c) ih o e = law a a' o c (ih a refl) e

two_found : (F : Bag → Bag → Option Bag) (G : Bag → Bag → Change → Change → Option Change) → CarriesTwo F G
    → (a b : Bag) (a_now b_now : Option Bag) (c d : Option Change) → IsCarried a a_now c → IsCarried b b_now d
    → (o : Bag)
    → F a b ≡ Some o → IsCarried o (of_two F a_now b_now) (of_two (G a b) c d)
two_found F G law a b None b_now None d l r o e = tt
two_found F G law a b None b_now (Some c) d l r o e = absurd l
two_found F G law a b (Some a') b_now None d l r o e = absurd l
two_found F G law a b (Some a') None (Some c) None l r o e = tt
two_found F G law a b (Some a') None (Some c) (Some d) l r o e = absurd r
two_found F G law a b (Some a') (Some b') (Some c) None l r o e = absurd r
two_found F G law a b (Some a') (Some b') (Some c) (Some d) l r o e = law a a' b b' o c d l r e

two : (F : Bag → Bag → Option Bag) (G : Bag → Bag → Change → Change → Option Change) → CarriesTwo F G
    → (a_was b_was a_now b_now : Option Bag) (c d : Option Change) → ((a : Bag) → a_was ≡ Some a → IsCarried a a_now c)
    → ((b : Bag) → b_was ≡ Some b → IsCarried b b_now d) → (o : Bag) → of_two F a_was b_was ≡ Some o
    → IsCarried o (of_two F a_now b_now) (of_two (λ a b. of_two (G a b) c d) a_was b_was)
two F G law None b_was a_now b_now c d l r o e = cc
two F G law (Some a) None a_now b_now c d l r o e = cc
two F G law (Some a) (Some b) a_now b_now c d l r o e = two_found F G law a b a_now b_now c d (l a refl) (r b refl) o e

two_alone : (F : Bag → Bag → Option Bag) (G : Change → Change → Option Change) → CarriesTwo F (λ a b. G)
    → (a_was b_was a_now b_now : Option Bag) (c d : Option Change) → ((a : Bag) → a_was ≡ Some a → IsCarried a a_now c)
    → ((b : Bag) → b_was ≡ Some b → IsCarried b b_now d) → (o : Bag) → of_two F a_was b_was ≡ Some o
    → IsCarried o (of_two F a_now b_now) (of_two G c d)
two_alone F G law None b_was a_now b_now c d l r o e = cc
two_alone F G law (Some a) None a_now b_now c d l r o e = cc
two_alone F G law (Some a) (Some b) a_now b_now c d l r o e =
    two_found F (λ a b. G) law a b a_now b_now c d (l a refl) (r b refl) o e

sum_carried : CarriesTwo (λ a b. Some (plus a b)) (λ a b c d. Some (summed c d))
sum_carried a a' b b' o c d left right e =
    let is : plus a b ≡ o = cc in
    subst (λ x. IsTurn x (plus a' b') (plus c.comes d.comes) (plus c.goes d.goes)) is
    (plus-turn a a' b b' c d left right)

-- ---- by operator

netted : (old : Bag) (now : Option Bag) (c : Change) (more fewer : Bag) → IsNet c.goes c.comes more fewer
    → IsCarried old now (Some c) → IsCarried old now (Some (record { comes = more; goes = fewer }))
netted old None c more fewer net h = h
netted old (Some new) c more fewer net turn =
    turn_of_net old new more fewer
    (net_of_sides old new c.comes c.goes more fewer (changed_of_turn old new c.comes c.goes turn) net)

module _ (s : Sources) where
  pub carries-scan : (source : ℕ) → Carries (Scan source) s (Some (change_in s source))
  unfolding eval
  carries-scan source = record {
    leads = λ new o turns e. let is : source_in s.old source ≡ o = cc in
        subst (λ x. IsTurn x (source_in new source) (change_in s source).comes (change_in s source).goes) is
        (turns source);
  }

  pub carries-filter : (q : Query) (condition : Scalar) (found : Option Change) → Carries q s found
      → Carries (Filter q condition) s (of_one (carried_over (kept_by condition)) found)
  unfolding eval
  carries-filter q condition found h = record {
    leads = λ new o turns e. one_alone (filtered condition) (carried_over (kept_by condition))
        (λ a a' o c turn is. gathered-carried (kept_by condition) a a' o c turn is)
        (eval q s.old) (eval q new) found (λ a is. h.leads new a turns is) o e;
  }

  pub carries-project : (q : Query) (items : List Scalar) (found : Option Change) → Carries q s found
      → Carries (Project q items) s (of_one (carried_over (image_by items)) found)
  unfolding eval
  carries-project q items found h = record {
    leads = λ new o turns e. one_alone (projected items) (carried_over (image_by items))
        (λ a a' o c turn is. gathered-carried (image_by items) a a' o c turn is)
        (eval q s.old) (eval q new) found (λ a is. h.leads new a turns is) o e;
  }

  pub carries-join : (p q : Query) (on : Scalar) (c d : Option Change) → Carries p s c → Carries q s d
      → Carries (Join p q on) s (of_two (λ a b. of_two (joined_change on a b) c d) (eval p s.old) (eval q s.old))
  unfolding eval
  carries-join p q on c d left right = record {
    leads = λ new o turns e. two (joined on) (joined_change on) (join_carried on) (eval p s.old) (eval q s.old)
        (eval p new) (eval q new) c d (λ a is. left.leads new a turns is) (λ b is. right.leads new b turns is) o e;
  }

  pub carries-union : (p q : Query) (c d : Option Change) → Carries p s c → Carries q s d
      → Carries (UnionAll p q) s (of_two (λ c d. Some (summed c d)) c d)
  unfolding eval
  carries-union p q c d left right = record {
    leads = λ new o turns e. two_alone (λ a b. Some (plus a b)) (λ c d. Some (summed c d)) sum_carried (eval p s.old)
        (eval q s.old) (eval p new) (eval q new) c d (λ a is. left.leads new a turns is)
        (λ b is. right.leads new b turns is) o e;
  }

  pub carries-group : (q : Query) (by : List Scalar) (calls : List Call) (found : Option Change) → Carries q s found
      → Carries (Group q by calls) s (of_two (regrouped by calls) (eval q s.old) found)
  unfolding eval
  carries-group q by calls found h = record {
    leads = λ new o turns e. one (grouped by calls) (regrouped by calls) (regrouped-carried by calls) (eval q s.old)
        (eval q new) found (λ a is. h.leads new a turns is) o e;
  }

  pub carries-net : (q : Query) (c : Change) (more fewer : Bag) → Carries q s (Some c)
      → IsNet c.goes c.comes more fewer → Carries q s (Some (record { comes = more; goes = fewer }))
  carries-net q c more fewer h net = record {
    leads = λ new o turns e. netted o (eval q new) c more fewer net (h.leads new o turns e);
  }
