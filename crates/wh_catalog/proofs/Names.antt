-- Where the names of objects stand last.
--     more_names, without_last      with one more name; from the back on
--     lives_last                    one that lives is the last one of its name
--     keeps_names, keeps_life       one in another's place
--     last_fewer                    without the last one
--     is_last_as, lives_by_id, last_by_id     what the test of an id says
use Rattle.std.proofs.Common.{◌≡◌, ℕ, zero, suc, ◌+◌, ◌-◌, ◌<◌, ◌≤◌, Bool, true, false, cond, List, [], ◌∷◌, ◌++◌}
use Rattle.std.proofs.Common.{length, take, set, get_or, Option, Some, None, option_map, bytes_eq, nat_eq, refl, sym}
use Rattle.std.proofs.Common.{ap, subst, ◌∙◌, arith}
use Rattle.std.specs.Option.{option_eq, option_map_or}
use Rattle.std.specs.Cmp.{nat_eq_equiv}
use Rattle.std.specs.Cmp.Lexicographic.{nat_list_eq_equiv}
use Rattle.std.proofs.Math.Seq.{take-suc, map-set_same}
use Rattle.std.proofs.lemmas.Bool.{eqb-true}
use Rattle.std.proofs.lemmas.List.{length-map, length-set, length-take-le, map-append}
use Rattle.wh_state.specs.State.{at_id}
use Rattle.wh_state.proofs.IdLaws.{map_at}
use Rattle.wh_catalog.specs.declared.object.StoredObject.{StoredObject}
use Rattle.wh_catalog.specs.Names.{or_first, last_place, last_id, is_last, names_of, AreLast, KeepsNames}
use Rattle.wh_catalog.specs.Object.{IsPlaceOf}
use Rattle.wh_catalog.proofs.Places.{at_place}

split : (b : Bool) (n : ℕ) (found : Option ℕ) (is_meant : Bool)
    → or_first (cond b (Some n) found) is_meant ≡ cond b (Some (suc n)) (or_first found is_meant)
split true n found is_meant = refl
split false n found is_meant = refl

pub more_names : (name : List ℕ) (ns : List (List ℕ)) (n : List ℕ)
    → last_place name (ns ++ n ∷ []) ≡ cond (bytes_eq n name) (Some (length ns)) (last_place name ns)
more_names name [] n = refl
more_names name (m ∷ ns) n = ap (λ p. or_first p (bytes_eq m name)) (more_names name ns n)
    ∙ split (bytes_eq n name) (length ns) (last_place name ns) (bytes_eq m name)

pub without_last : (os : List StoredObject) (name : List ℕ) (left : ℕ) (o : StoredObject) → 0 < left → left ≤ length os
    → o ≡ get_or os (left - 1) o
    → last_place name (names_of (take left os))
    ≡ cond (bytes_eq o.name name) (Some (left - 1)) (last_place name (names_of (take (left - 1) os)))
without_last os name zero o some here is = absurd (omega arith)
without_last os name (suc left) o some here is =
    let before = take left os in
    let last = get_or os left o in
    let same : left ≡ suc left - 1 = omega arith in
    subst (λ n. last_place name (names_of (take (suc left) os))
    ≡ cond (bytes_eq o.name name) (Some n) (last_place name (names_of (take n os)))) same (
    ap (λ (l : List StoredObject). last_place name (names_of l)) (take-suc os left o (omega arith))
    ∙ ap (last_place name) (map-append (λ (q : StoredObject). q.name) before (last ∷ []))
    ∙ more_names name (names_of before) last.name
    ∙ ap (λ (q : StoredObject). cond (bytes_eq q.name name) (Some (length (names_of before)))
    (last_place name (names_of before))) (ap (λ n. get_or os n o) same ∙ sym is)
    ∙ ap (λ n. cond (bytes_eq o.name name) (Some n) (last_place name (names_of before)))
    (length-map before (λ (q : StoredObject). q.name) ∙ length-take-le left os (omega arith))
    )

place_behind : (p : Option ℕ) (is_meant : Bool) (n : ℕ) → or_first p is_meant ≡ Some (suc n) → p ≡ Some n
place_behind (Some p) is_meant n is = cc
place_behind None true n is = cc
place_behind None false n is = cc

none_behind : (p : Option ℕ) (is_meant : Bool) → or_first p is_meant ≡ Some 0 → p ≡ None
none_behind (Some p) is_meant is = cc
none_behind None is_meant is = refl

pub within : (name : List ℕ) (ns : List (List ℕ)) (place : ℕ) → last_place name ns ≡ Some place → place < length ns
within name [] place is = cc
within name (n ∷ ns) zero is = omega arith
within name (n ∷ ns) (suc place) is =
    let there = within name ns place (place_behind (last_place name ns) (bytes_eq n name) place is) in omega arith

-- ---- live objects

pub lives_last : (os : List StoredObject) (place : ℕ) (o : StoredObject) → AreLast os → place < length os
    → o ≡ get_or os place o → o.is_live ≡ true
    → last_place o.name (names_of os) ≡ Some place
lives_last [] place o last here is live = absurd (omega arith)
lives_last (p ∷ os) zero o last here is live =
    let none : last_place o.name (names_of os) ≡ None =
    subst (λ (q : StoredObject). last_place q.name (names_of os) ≡ None) (sym is)
    (last.0 (ap (λ (q : StoredObject). q.is_live) (sym is) ∙ live)) in
    ap (λ r. or_first r (bytes_eq p.name o.name)) none
    ∙ ap (λ b. cond b (Some 0) None)
    (ap (λ (q : StoredObject). bytes_eq q.name o.name) (sym is) ∙ nat_list_eq_equiv.refl o.name)
lives_last (p ∷ os) (suc place) o last here is live =
    ap (λ r. or_first r (bytes_eq p.name o.name)) (lives_last os place o last.1 (omega arith) is live)

pub same_names : (os : List StoredObject) (place : ℕ) (old new : StoredObject) → old ≡ get_or os place old
    → new.name ≡ old.name → names_of (set os place new) ≡ names_of os
same_names os place old new is same = map-set_same (λ (q : StoredObject). q.name) os place new old
    (same ∙ ap (λ (q : StoredObject). q.name) is)

last_set : (os : List StoredObject) (place : ℕ) (old new : StoredObject) → AreLast os → place < length os
    → old ≡ get_or os place old → new.name ≡ old.name
    → (new.is_live ≡ true → last_place old.name (names_of os) ≡ Some place)
    → AreLast (set os place new)
last_set [] place old new last here is same stands = tt
last_set (o ∷ os) zero old new last here is same stands = (
  λ live. ap (λ n. last_place n (names_of os)) same
      ∙ none_behind (last_place old.name (names_of os)) (bytes_eq o.name old.name) (stands live),
  last.1,
)
last_set (o ∷ os) (suc place) old new last here is same stands = (
  λ live. ap (last_place o.name) (same_names os place old new is same) ∙ last.0 live,
  last_set os place old new last.1 (omega arith) is same
      (λ live. place_behind (last_place old.name (names_of os)) (bytes_eq o.name old.name) place (stands live)),
)

-- an object that comes in the place of one with its name
module _ {os : List StoredObject} {id place : ℕ} {old : StoredObject} (at : IsPlaceOf id os place)
    (is : old ≡ get_or os place old) (new : StoredObject) (same : new.name ≡ old.name) where
  pub keeps_names : (AreLast os → new.is_live ≡ true → last_place old.name (names_of os) ≡ Some place)
      → KeepsNames os (set os place new)
  keeps_names stands = record {
    count = length-set os place new;
    names = same_names os place old new is same;
    last = λ last. last_set os place old new last at.within is same (stands last);
  }

  pub keeps_life : new.is_live ≡ old.is_live → KeepsNames os (set os place new)
  keeps_life life = keeps_names (λ last live. lives_last os place old last at.within is (sym life ∙ live))

none_of : (b : Bool) (n : ℕ) (found : Option ℕ) → cond b (Some n) found ≡ None → found ≡ None
none_of true n found is = cc
none_of false n found is = is

pub last_fewer : (os : List StoredObject) (o : StoredObject) → AreLast (os ++ o ∷ []) → AreLast os
last_fewer [] o last = tt
last_fewer (p ∷ os) o last = (
  λ live. none_of (bytes_eq o.name p.name) (length (names_of os)) (last_place p.name (names_of os))
      (sym (more_names p.name (names_of os) o.name)
      ∙ ap (last_place p.name) (sym (map-append (λ (q : StoredObject). q.name) os (o ∷ []))) ∙ last.0 live),
  last_fewer os o last.1,
)

-- ---- by ids

pub place_of_id : (found : Option ℕ) (id : ℕ) → option_map (λ place. place + 1) found ≡ Some id → found ≡ Some (id - 1)
place_of_id None id is = cc
place_of_id (Some place) id is = let same : place + 1 ≡ id = cc in ap Some (omega arith)

pub id_within : (name : List ℕ) (ns : List (List ℕ)) (id : ℕ) → last_id name ns ≡ Some id → (0 < id) × (id ≤ length ns)
id_within name ns id is = by (last_place name ns) refl
  where
    by : (found : Option ℕ) → last_place name ns ≡ found → (0 < id) × (id ≤ length ns)
    by None none = absurd (let e : last_id name ns ≡ None = ap (option_map (λ place. place + 1)) none in cc)
    by (Some place) some =
        let e : last_id name ns ≡ Some (place + 1) = ap (option_map (λ p. p + 1)) some in
        let same : place + 1 ≡ id = cc in
        let below = within name ns place some in
        (omega arith, omega arith)

module _ (ns : List (List ℕ)) (id : ℕ) (name : List ℕ) (at : at_id ns id ≡ Some name) where
  pub is_last_as : is_last id ns ≡ option_eq nat_eq (last_id name ns) (Some id)
  is_last_as = ap (λ o. option_map_or (λ n. option_eq nat_eq (last_id n ns) (Some id)) o false) at

  last_place_by : is_last id ns ≡ true → last_place name ns ≡ Some (id - 1)
  last_place_by last = place_of_id (last_place name ns) id (by (last_id name ns) (sym is_last_as ∙ last))
    where
      by : (found : Option ℕ) → option_eq nat_eq found (Some id) ≡ true → found ≡ Some id
      by None e = cc
      by (Some n) e = ap Some (eqb-true n id e)

module _ {os : List StoredObject} {id place : ℕ} {o : StoredObject} (at : IsPlaceOf id os place)
    (is : o ≡ get_or os place o) where
  pub named_at : at_id (names_of os) id ≡ Some o.name
  named_at = map_at (λ (q : StoredObject). q.name) os id
      ∙ ap (option_map (λ (q : StoredObject). q.name)) (at_place at is)

  pub lives_by_id : AreLast os → o.is_live ≡ true → is_last id (names_of os) ≡ true
  lives_by_id last live =
      let same : place + 1 ≡ id = omega (arith, at.before) in
      is_last_as (names_of os) id o.name named_at
      ∙ ap (λ found. option_eq nat_eq (option_map (λ place. place + 1) found) (Some id))
      (lives_last os place o last at.within is live)
      ∙ ap (λ n. nat_eq n id) same
      ∙ nat_eq_equiv.refl id

  pub last_by_id : is_last id (names_of os) ≡ true → last_place o.name (names_of os) ≡ Some place
  last_by_id last =
      let same : id - 1 ≡ place = omega (arith, at.before) in
      last_place_by (names_of os) id o.name named_at last ∙ ap Some same
