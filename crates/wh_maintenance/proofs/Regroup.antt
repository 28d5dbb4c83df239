-- How a Group carries changes, by the keys that changed rows have.
--     regrouped-carried
use Rattle.std.specs.Prelude.{◌≡◌, Bool, true, false, cond, List, [], ◌∷◌, Option, Some, None}
use Rattle.std.proofs.Common.{arith, refl, sym, ap, subst, ◌∙◌}
use Rattle.wh_value.specs.Value.{Row}
use Rattle.wh_meaning.specs.Scalar.{Scalar, of_one, of_two}
use Rattle.wh_meaning.specs.Bag.{Bag, no_rows, count, plus, beside, gathered, restricted}
use Rattle.wh_meaning.specs.Query.{Call, values_on, image_by, projected, group_rows, distinct, grouped}
use Rattle.wh_meaning.proofs.BagLaws.{bag_of_same, count-plus, count-restricted}
use Rattle.wh_meaning.proofs.Gathered.{gathered-plus, nothing-beside}
use Rattle.wh_maintenance.specs.Turn.{less, IsTurn}
use Rattle.wh_maintenance.specs.Carried.{Change, sided, IsCarried}
use Rattle.wh_maintenance.specs.Delta.{after, is_among, key_among, with_keys, recounted, regrouped}
use Rattle.wh_maintenance.proofs.Sides.{carried_as, beside-comm, beside_there}
use Rattle.wh_maintenance.proofs.Turns.{turns_to, restricted-turn}
use Rattle.wh_maintenance.proofs.Group.{no_keys, grouped-carried, among_by_key, missed}

-- what an operation gives that gives something
given : {A B : Type 0} (f : A → Option B) (a : Option A) (b : B) → of_one f a ≡ Some b → (x : A) × (a ≡ Some x)
given f None b e = cc
given f (Some x) b e = (x, refl)

whole : (calls : List Call) (a a' o : Bag) (c : Change) → a' ≡ after a c → grouped [] calls a ≡ Some o
    → IsCarried o (grouped [] calls a') (regrouped [] calls a c)
whole calls a a' o c is e =
    subst (λ x. IsCarried o (grouped [] calls a') (sided (grouped [] calls x) (grouped [] calls a))) is
    (carried_as o (Some no_rows) (grouped [] calls a) (grouped [] calls a') (grouped [] calls a) (grouped [] calls a')
    (sym (nothing-beside _)) (sym (nothing-beside _)) e)

all_meet : (test : Row → Bool) (b : Bag) → ((row : Row) → test row ≡ false → count b row ≡ 0) → restricted test b ≡ b
all_meet test b none = bag_of_same _ _ (λ q.
    count-restricted test b q
    ∙ elim (test q) as (λ t. test q ≡ t → cond t (count b q) 0 ≡ count b q) [
      | true ↦ λ t. refl
      | false ↦ λ t. sym (none q t)
    ] refl)

-- of rows that meet a test, where no others come or go
restricted-after : (test : Row → Bool) (a a' : Bag) (c : Change) → IsTurn a a' c.comes c.goes
    → ((row : Row) → test row ≡ false → count c.comes row ≡ 0) → ((row : Row) → test row ≡ false → count c.goes row ≡ 0)
    → restricted test a' ≡ after (restricted test a) c
restricted-after test a a' c turn no_comes no_goes =
    turns_to (restricted test a) (restricted test a') (restricted test c.comes) (restricted test c.goes)
    (restricted-turn test a a' c.comes c.goes turn)
    ∙ ap (λ x. plus (less (restricted test a) x) (restricted test c.comes)) (all_meet test c.goes no_goes)
    ∙ ap (plus (less (restricted test a) c.goes)) (all_meet test c.comes no_comes)

by_keys : (e : Scalar) (es : List Scalar) (calls : List Call) (a a' o : Bag) (c : Change) → IsTurn a a' c.comes c.goes
    → grouped (e ∷ es) calls a ≡ Some o → (came went : Option Bag) → projected (e ∷ es) c.comes ≡ came
    → projected (e ∷ es) c.goes ≡ went → (stays : Option Bag) → projected (e ∷ es) a' ≡ beside stays came
    → (gone : Bag) → went ≡ Some gone → IsCarried o (grouped (e ∷ es) calls a')
    (of_two (λ came went. recounted (e ∷ es) calls c (with_keys (e ∷ es) (plus came went) a)) came went)
by_keys e es calls a a' o c turn old None went came_is went_is stays parts gone there =
    let none : projected (e ∷ es) a' ≡ None = parts ∙ beside-comm stays None in
    subst (λ x. IsCarried o x None) (sym (no_keys e es calls a' none)) tt
by_keys e es calls a a' o c turn old (Some came) None came_is went_is stays parts gone there = cc
by_keys e es calls a a' o c turn old (Some came) (Some went) came_is went_is stays parts gone there =
    let ks = plus came went in
    let test = λ (row : Row). key_among ks (values_on (e ∷ es) row) in
    let no_comes : (row : Row) → test row ≡ false → count c.comes row ≡ 0 = missed (e ∷ es) ks c.comes came came_is
    (λ k. let s = count-plus came went k in omega arith) in
    let no_goes : (row : Row) → test row ≡ false → count c.goes row ≡ 0 = missed (e ∷ es) ks c.goes went went_is
    (λ k. let s = count-plus came went k in omega arith) in
    subst (λ x. IsCarried o (grouped (e ∷ es) calls a')
    (sided (grouped (e ∷ es) calls x) (grouped (e ∷ es) calls (with_keys (e ∷ es) ks a))))
    (restricted-after test a a' c turn no_comes no_goes)
    (grouped-carried e es calls test (is_among ks) (among_by_key (e ∷ es) ks) a a' o c turn no_comes no_goes old)

pub regrouped-carried : (by : List Scalar) (calls : List Call) (a a' o : Bag) (c : Change) → IsTurn a a' c.comes c.goes
    → grouped by calls a ≡ Some o → IsCarried o (grouped by calls a') (regrouped by calls a c)
regrouped-carried [] calls a a' o c turn e = whole calls a a' o c (turns_to a a' c.comes c.goes turn) e
regrouped-carried (e ∷ es) calls a a' o c turn old =
    let image = image_by (e ∷ es) in
    let keyed = given (λ keyed. group_rows (e ∷ es) calls a (distinct (e ∷ es) keyed)) (projected (e ∷ es) a) o old in
    let was : beside (gathered image c.goes) (gathered image turn.stays) ≡ Some keyed.0 =
    beside-comm (gathered image c.goes) (gathered image turn.stays)
    ∙ sym (gathered-plus image turn.stays c.goes) ∙ ap (gathered image) (sym turn.was) ∙ keyed.1 in
    let gone = beside_there (gathered image c.goes) (gathered image turn.stays) keyed.0 was in
    by_keys e es calls a a' o c turn old (projected (e ∷ es) c.comes)
    (projected (e ∷ es) c.goes) refl refl (gathered image turn.stays)
    (ap (gathered image) turn.is ∙ gathered-plus image turn.stays c.comes) gone.0 gone.1
