-- The live objects of a file by their names.
--     none_named          a name that no live object has is free
--     IsNamed, named_is   the object of a name
--     free_behind         the name is free once that object is dropped
use Rattle.std.proofs.Common.{◌≡◌, ℕ, suc, ◌+◌, ◌≤◌, Bool, true, false, cond, List, []}
use Rattle.std.proofs.Common.{◌∷◌, ◌++◌, length, map, Option, Some, None, option_map, refl, sym, ap, subst, ◌∙◌, arith}
use Rattle.std.specs.Prelude.{not, ◌&&◌, bytes_eq, IsNone, nat_lt, slice_get, slice_set}
use Rattle.std.specs.List.{AllByRecursion, prefix_len}
use Rattle.std.proofs.lemmas.Bool.Decides.{nat_tests}
use Rattle.std.proofs.lemmas.Slice.Eq.{bytes_eq-Decides}
use Rattle.wh_naming.specs.Scope.{Named, named}
use Rattle.wh_state.specs.State.{TaskKind, DynamicKind}
use Rattle.wh_state.specs.State.{at_id, put_at, changed_at, columns_in, dropped, id_of, is_named}
use Rattle.wh_state.specs.State.{TableKind, StreamKind}
use Rattle.wh_state.specs.Stored.{StoredKind, StoredObject}
use Rattle.wh_state.specs.Stored.{object_meant, kind_meant}
use Rattle.wh_state.proofs.FirmLaws.{HasNot, NamesApart}
use Rattle.wh_machine.specs.Names.{object_kind, names_from, named_object}

-- ---- free names

short_prefix : (test : StoredObject → Bool) (xs : List StoredObject) → AllByRecursion (λ x. test x ≡ false) xs
    → length xs ≤ prefix_len (λ x. not (test x)) xs
short_prefix test [] h = omega arith
short_prefix test (x ∷ xs) h =
    let rest = short_prefix test xs h.1 in
    rw h.0 (omega (arith, rest))

pub free_of_all : (name : List ℕ) (objects : List StoredObject) → AllByRecursion (HasNot name) objects
    → IsNone (id_of name objects)
free_of_all name objects apart =
    let k : ℕ = prefix_len (λ x. not (is_named name x)) objects in
    let long : length objects ≤ k = short_prefix (is_named name) objects apart in
    let test : nat_lt k (length objects) ≡ false = not_before k (length objects) long in
    rw test refl
  where
    not_before : (k n : ℕ) → n ≤ k → nat_lt k n ≡ false
    not_before k n h = grind (arith, nat_tests)

columns_told : (k : StoredKind) → columns_in (kind_meant k) ≡ columns_in k
columns_told (TableKind t) = refl
columns_told (StreamKind s) = refl
columns_told (TaskKind t) = refl
columns_told (DynamicKind d t) = refl

-- a name that isn't found
pub none_named : (id : ℕ) (objects : List StoredObject) (name : List ℕ)
    → named (names_from id (map object_meant objects)) name ≡ None → AllByRecursion (HasNot name) objects
none_named id [] name none = tt
none_named id (o ∷ os) name none = by_live o.is_live refl none (none_named (suc id) os name)
  where
    by_name : (same : Bool) → bytes_eq o.name name ≡ same
        → cond same (Some (named_object id (object_meant o)))
        (named (names_from (suc id) (map object_meant os)) name) ≡ None
        → (named (names_from (suc id) (map object_meant os)) name ≡ None → AllByRecursion (HasNot name) os)
        → (bytes_eq o.name name ≡ false) × AllByRecursion (HasNot name) os
    by_name true is none rest = absurd cc
    by_name false is none rest = (is, rest none)

    by_live : (live : Bool) → o.is_live ≡ live
        → named (cond live (named_object id (object_meant o) ∷ []) []
        ++ names_from (suc id) (map object_meant os)) name ≡ None
        → (named (names_from (suc id) (map object_meant os)) name ≡ None → AllByRecursion (HasNot name) os)
        → ((o.is_live && bytes_eq o.name name) ≡ false) × AllByRecursion (HasNot name) os
    by_live false is none rest = (rw is refl, rest none)
    by_live true is none rest =
        let both = by_name (bytes_eq o.name name) refl none rest in
        (rw is both.0, both.1)

-- ---- the object of a name

pub record IsNamed (from : ℕ) (objects : List StoredObject) (name : List ℕ) (found : Named) : Type 0 where
  pub place : ℕ
  pub object : StoredObject
  pub there : slice_get objects place ≡ Some object
  pub id : found.id ≡ from + place
  pub live : object.is_live ≡ true
  pub kind : found.kind ≡ object_kind (kind_meant object.kind)
  pub columns : found.columns ≡ columns_in object.kind
  pub free : NamesApart objects → AllByRecursion (HasNot name) (slice_set objects place (dropped object))

pub named_from : (from : ℕ) (objects : List StoredObject) (name : List ℕ) (found : Named)
    → named (names_from from (map object_meant objects)) name ≡ Some found → IsNamed from objects name found
named_from from [] name found is = absurd cc
named_from from (o ∷ os) name found is = by_live o.is_live refl is (named_from (suc from) os name found)
  where
    later : (o.is_live && bytes_eq o.name name) ≡ false → IsNamed (suc from) os name found
        → IsNamed from (o ∷ os) name found
    later other rest = record {
      place = suc rest.place;
      object = rest.object;
      there = rest.there;
      id = omega (arith, rest.id);
      live = rest.live;
      kind = rest.kind;
      columns = rest.columns;
      free = λ apart. (other, rest.free apart.1);
    }

    here : o.is_live ≡ true → bytes_eq o.name name ≡ true → named_object from (object_meant o) ≡ found
        → IsNamed from (o ∷ os) name found
    here live same found_is = record {
      place = 0;
      object = o;
      there = refl;
      id = ap (λ (n : Named). n.id) (sym found_is) ∙ omega arith;
      live = live;
      kind = ap (λ (n : Named). n.kind) (sym found_is);
      columns = ap (λ (n : Named). n.columns) (sym found_is) ∙ columns_told o.kind;
      free = λ apart. (
        refl,
        subst (λ (n : List ℕ). AllByRecursion (HasNot n) os)
            ((bytes_eq-Decides o.name name).0 same) (apart.0 live),
      );
    }

    by_name : (same : Bool) → bytes_eq o.name name ≡ same → o.is_live ≡ true
        → cond same (Some (named_object from (object_meant o)))
        (named (names_from (suc from) (map object_meant os)) name)
        ≡ Some found
        → (named (names_from (suc from) (map object_meant os)) name ≡ Some found → IsNamed (suc from) os name found)
        → IsNamed from (o ∷ os) name found
    by_name true same live is rest = here live same cc
    by_name false same live is rest = later (rw live same) (rest is)

    by_live : (live : Bool) → o.is_live ≡ live
        → named (cond live (named_object from (object_meant o) ∷ []) []
        ++ names_from (suc from) (map object_meant os)) name
        ≡ Some found
        → (named (names_from (suc from) (map object_meant os)) name ≡ Some found → IsNamed (suc from) os name found)
        → IsNamed from (o ∷ os) name found
    by_live false dead is rest = later (rw dead refl) (rest is)
    by_live true live is rest = by_name (bytes_eq o.name name) refl live is rest

-- by its id
pub record IsObjectOf (objects : List StoredObject) (name : List ℕ) (found : Named) : Type 0 where
  pub object : StoredObject
  pub there : at_id objects found.id ≡ Some object
  pub live : object.is_live ≡ true
  pub kind : found.kind ≡ object_kind (kind_meant object.kind)
  pub columns : found.columns ≡ columns_in object.kind
  pub free : NamesApart objects → AllByRecursion (HasNot name) (changed_at objects found.id dropped)

pub object_named : (objects : List StoredObject) (name : List ℕ) (found : Named)
    → named (names_from 1 (map object_meant objects)) name ≡ Some found → IsObjectOf objects name found
object_named objects name found is =
    let n = named_from 1 objects name found is in
    let id : suc n.place ≡ found.id = omega (arith, n.id) in
    let there : at_id objects found.id ≡ Some n.object = ap (at_id objects) (sym id) ∙ n.there in
    record {
      object = n.object;
      there = there;
      live = n.live;
      kind = n.kind;
      columns = n.columns;
      free = λ apart. subst (λ (id : ℕ). AllByRecursion (HasNot name) (changed_at objects id dropped)) id
          (subst (λ (f : Option StoredObject). AllByRecursion (HasNot name)
          (put_at objects (suc n.place) (option_map dropped f)))
          (sym n.there) (n.free apart));
    }
