-- The live object of a name, where live objects are the last ones of their names.
--     found_none, found_at     the last object of a name is the one that lives, if any does
--     last_more                with one more object, of a name that no live one has
use Rattle.std.proofs.Common.{◌≡◌, ℕ, zero, suc, ◌+◌, ◌-◌, ◌<◌, Bool, true, false, cond, ◌&&◌, not, List, [], ◌∷◌, ◌++◌}
use Rattle.std.proofs.Common.{length, get_or, Option, Some, None, option_map, bytes_eq, nat_lt, refl, sym, ap}
use Rattle.std.proofs.Common.{subst, ◌∙◌, arith}
use Rattle.std.specs.Bool.{then_some}
use Rattle.std.specs.Prelude.{IsNone}
use Rattle.std.specs.List.{position, prefix_len}
use Rattle.std.specs.Cmp.Lexicographic.{bytes_decides, nat_list_eq_equiv}
use Rattle.std.proofs.lemmas.Bool.{lt-ltb}
use Rattle.std.proofs.lemmas.List.{map-append}
use Rattle.std.proofs.lemmas.Bool.Decides.{nat_tests}
use Rattle.wh_state.specs.State.{id_of, is_named}
use Rattle.wh_state.proofs.IdLaws.{map_position}
use Rattle.wh_catalog.specs.declared.object.StoredObject.{StoredObject}
use Rattle.wh_catalog.specs.Undoable.{object_in}
use Rattle.wh_catalog.specs.Object.{kept_object, kept_objects, stored_objects}
use Rattle.wh_catalog.specs.Names.{or_first, last_place, last_id, names_of, AreLast}
use Rattle.wh_catalog.proofs.Names.{more_names, place_of_id}

abbrev pub has_name : List ℕ → StoredObject → Bool
has_name name o = o.is_live && bytes_eq o.name name

same_id : (name : List ℕ) (os : List StoredObject)
    → id_of name (stored_objects os) ≡ option_map (λ place. place + 1) (position (has_name name) os)
same_id name os = ap (option_map (λ place. place + 1))
    (map_position object_in (λ k. is_named name (object_in k)) (is_named name) (λ k. refl) (kept_objects os)
    ∙ map_position kept_object (has_name name) (λ k. is_named name (object_in k)) (λ o. refl) os)

-- ---- the first place

shift : (k n : ℕ) → nat_lt (suc k) (suc n) ≡ nat_lt k n
shift k n = grind (arith, nat_tests)

position-cons : {X : Type 0} (p : X → Bool) (x : X) (xs : List X)
    → position p (x ∷ xs) ≡ cond (p x) (Some 0) (option_map (λ i. suc i) (position p xs))
position-cons p x xs = by (p x)
  where
    k : ℕ
    k = prefix_len (λ y. not (p y)) xs

    n : ℕ
    n = length xs

    behind : (b : Bool) → cond b (Some (suc k)) None ≡ option_map (λ i. suc i) (cond b (Some k) None)
    behind true = refl
    behind false = refl

    by : (b : Bool)
        → cond (nat_lt (cond (not b) (1 + k) 0) (suc n)) (Some (cond (not b) (1 + k) 0)) None
        ≡ cond b (Some 0) (option_map (λ i. suc i) (cond (nat_lt k n) (Some k) None))
    by true = ap (λ b. cond b (Some 0) None) (lt-ltb 0 (suc n) (omega arith))
    by false =
        let same : 1 + k ≡ suc k = omega arith in
        ap (λ i. cond (nat_lt i (suc n)) (Some i) None) same
        ∙ ap (λ b. cond b (Some (suc k)) None) (shift k n) ∙ behind (nat_lt k n)

none_first : (b : Bool) (r : Option ℕ) → cond b (Some 0) (option_map (λ i. suc i) r) ≡ None → (b ≡ false) × (r ≡ None)
none_first true r is = cc
none_first false (Some i) is = cc
none_first false None is = (refl, refl)

-- ---- the one that lives

-- that place, if the object there lives
abbrev pub living : List StoredObject → Option ℕ → Option ℕ
living os None = None
living [] (Some place) = None
living (o ∷ os) (Some zero) = cond o.is_live (Some 0) None
living (o ∷ os) (Some (suc place)) = option_map (λ i. suc i) (living os (Some place))

both : (a b : Bool) → (a && b) ≡ true → (a ≡ true) × (b ≡ true)
both true b e = (refl, e)
both false b e = cc

found : (name : List ℕ) (os : List StoredObject) → AreLast os
    → position (has_name name) os ≡ living os (last_place name (names_of os))
found name [] last = refl
found name (o ∷ os) last =
    position-cons (has_name name) o os
    ∙ ap (λ r. cond (has_name name o) (Some 0) (option_map (λ i. suc i) r)) (found name os last.1)
    ∙ step (last_place name (names_of os)) refl
  where
    alone : (l b : Bool) → l ≡ o.is_live → cond (l && b) (Some 0) None ≡ living (o ∷ os) (cond b (Some 0) None)
    alone true true e = ap (λ c. cond c (Some 0) None) e
    alone true false e = refl
    alone false true e = ap (λ c. cond c (Some 0) None) e
    alone false false e = refl

    earlier : (place : ℕ) (b : Bool) → has_name name o ≡ b → last_place name (names_of os) ≡ Some place
        → cond b (Some 0) (option_map (λ i. suc i) (living os (Some place))) ≡ living (o ∷ os) (Some (suc place))
    earlier place false e is = refl
    earlier place true e is =
        let lives = both o.is_live (bytes_eq o.name name) e in
        let none : last_place name (names_of os) ≡ None =
        subst (λ n. last_place n (names_of os) ≡ None) ((bytes_decides o.name name).0 lives.1) (last.0 lives.0) in
        cc

    step : (r : Option ℕ) → last_place name (names_of os) ≡ r
        → cond (has_name name o) (Some 0) (option_map (λ i. suc i) (living os r))
        ≡ living (o ∷ os) (or_first r (bytes_eq o.name name))
    step None is = alone o.is_live (bytes_eq o.name name) refl
    step (Some place) is = earlier place (has_name name o) refl is

living_at : (os : List StoredObject) (place : ℕ) (o : StoredObject) → place < length os → o ≡ get_or os place o
    → living os (Some place) ≡ cond o.is_live (Some place) None
living_at [] place o here is = absurd (omega arith)
living_at (p ∷ os) zero o here is = ap (λ (q : StoredObject). cond q.is_live (Some 0) None) (sym is)
living_at (p ∷ os) (suc place) o here is =
    ap (option_map (λ i. suc i)) (living_at os place o (omega arith) is) ∙ by o.is_live
  where
    by : (b : Bool) → option_map (λ i. suc i) (cond b (Some place) None) ≡ cond b (Some (suc place)) None
    by true = refl
    by false = refl

no_place : (r : Option ℕ) → option_map (λ place. place + 1) r ≡ None → r ≡ None
no_place None e = refl
no_place (Some place) e = cc

module _ (name : List ℕ) (os : List StoredObject) (last : AreLast os) where
  found_id : id_of name (stored_objects os)
      ≡ option_map (λ place. place + 1) (living os (last_place name (names_of os)))
  found_id = same_id name os ∙ ap (option_map (λ place. place + 1)) (found name os last)

  pub found_none : last_id name (names_of os) ≡ None → id_of name (stored_objects os) ≡ None
  found_none none =
      found_id ∙ ap (λ r. option_map (λ place. place + 1) (living os r)) (no_place (last_place name (names_of os)) none)

  pub found_at : (id : ℕ) (o : StoredObject) → last_id name (names_of os) ≡ Some id → id - 1 < length os → 0 < id
      → o ≡ get_or os (id - 1) o
      → id_of name (stored_objects os) ≡ then_some o.is_live id
  found_at id o some here first is =
      found_id
      ∙ ap (λ r. option_map (λ place. place + 1) (living os r)) (place_of_id (last_place name (names_of os)) id some)
      ∙ ap (option_map (λ place. place + 1)) (living_at os (id - 1) o here is)
      ∙ by o.is_live
    where
      by : (b : Bool) → option_map (λ place. place + 1) (cond b (Some (id - 1)) None) ≡ then_some b id
      by true = ap Some (omega arith)
      by false = refl

-- ---- one more

more : (os : List StoredObject) (o : StoredObject) → AreLast os → position (has_name o.name) os ≡ None
    → AreLast (os ++ o ∷ [])
more [] o last free = (λ live. refl, tt)
more (p ∷ os) o last free =
    let none = none_first (has_name o.name p) (position (has_name o.name) os)
    (sym (position-cons (has_name o.name) p os) ∙ free) in (
      λ live.
          let other : bytes_eq o.name p.name ≡ false =
          nat_list_eq_equiv.symm o.name p.name ∙ ap (λ l. l && bytes_eq p.name o.name) (sym live) ∙ none.0 in
          ap (last_place p.name) (map-append (λ (q : StoredObject). q.name) os (o ∷ []))
          ∙ more_names p.name (names_of os) o.name
          ∙ ap (λ b. cond b (Some (length (names_of os))) (last_place p.name (names_of os))) other ∙ last.0 live,
      more os o last.1 none.1,
    )

none_of : {A : Type 0} (o : Option A) → IsNone o → o ≡ None
none_of None none = refl
none_of (Some x) none = cc

pub last_more : (os : List StoredObject) (o : StoredObject) → AreLast os
    → IsNone (id_of o.name (stored_objects os))
    → AreLast (os ++ o ∷ [])
last_more os o last free = more os o last (no_place (position (has_name o.name) os)
    (sym (same_id o.name os) ∙ none_of (id_of o.name (stored_objects os)) free))
