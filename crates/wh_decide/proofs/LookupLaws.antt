-- Names that are looked up one by one.
--     place_named, none_named              the object of a name is found by its place among all objects
--     not_named, not_lost, is_named_so     so by the catalog's ids
use Rattle.std.proofs.Common.{◌≡◌, ℕ, suc, ◌+◌, Bool, true, false, cond, ◌&&◌, List, [], ◌∷◌, ◌++◌, Option, Some, None}
use Rattle.std.proofs.Common.{option_map, slice_get, refl, sym, ap, subst, ◌∙◌, arith}
use Rattle.std.specs.Prelude.{bytes_eq, if◌then◌else◌}
use Rattle.std.specs.List.{position, position_from}
use Rattle.std.proofs.lemmas.Iterator.Adapters.{position_from-zero}
use Rattle.wh_naming.specs.Findings.{Name}
use Rattle.wh_naming.specs.Scope.{Named, named}
use Rattle.wh_state.specs.State.{Object, at_id, id_of, is_named}
use Rattle.wh_machine.specs.Names.{named_object, names_from}
use Rattle.wh_state.specs.Stored.{object_meant}
use Rattle.wh_state.proofs.MeaningLaws.{id_of_meant}
use Rattle.wh_catalog.specs.Undoable.{object_in}
use Rattle.wh_catalog.specs.Object.{kept_object, object_of}
use Rattle.wh_catalog.specs.Catalog.{stored_of, state_of}
use Rattle.wh_catalog.specs.declared.catalog.Catalog.{Catalog}
use Rattle.wh_catalog.specs.declared.object.StoredObject.{StoredObject}
use Rattle.wh_txn.proofs.SeenLemmas.{objects_are}
use Rattle.wh_decide.proofs.CatalogLemmas.{object_there}

-- ---- by its place

head_named : (live is : Bool) (o : Named) (os : List Named) (n : Name) → bytes_eq o.name n ≡ is → live && is ≡ true
    → named ((if live then o ∷ [] else []) ++ os) n ≡ Some o
head_named true true o os n same both = rw same refl
head_named true false o os n same both = absurd cc
head_named false is o os n same both = absurd cc

head_other : (live is : Bool) (o : Named) (os : List Named) (n : Name) → bytes_eq o.name n ≡ is → live && is ≡ false
    → named ((if live then o ∷ [] else []) ++ os) n ≡ named os n
head_other true true o os n same both = absurd cc
head_other true false o os n same both = rw same refl
head_other false is o os n same both = refl

-- an object of these, whose first one has that id
record IsAt (id : ℕ) (n : Name) (os : List Object) (k : ℕ) : Type 0 where
  object : Object
  there : slice_get os k ≡ Some object
  found : named (names_from id os) n ≡ Some (named_object (id + k) object)

-- places are counted from there
abbrev Places : ℕ → ℕ → Name → List Object → Option ℕ → Type 0
Places from id n os None = named (names_from id os) n ≡ None
Places from id n os (Some place) = (k : ℕ) × (place ≡ from + k) × IsAt id n os k

places_then : (from id : ℕ) (n : Name) (o : Object) (os : List Object) (is : Bool) (behind : Option ℕ)
    → is_named n o ≡ is → Places (from + 1) (suc id) n os behind
    → Places from id n (o ∷ os) (cond is (Some from) behind)
places_then from id n o os true behind is h = (
  0,
  omega arith,
  record {
    object = o;
    there = refl;
    found = head_named o.is_live (bytes_eq o.name n) (named_object id o) (names_from (suc id) os) n refl is
        ∙ ap (λ (k : ℕ). Some (named_object k o)) (omega arith);
  },
)
places_then from id n o os false None is h =
    head_other o.is_live (bytes_eq o.name n) (named_object id o) (names_from (suc id) os) n refl is ∙ h
places_then from id n o os false (Some place) is h = (
  suc h.0,
  omega (arith, h.1),
  record {
    object = h.2.object;
    there = h.2.there;
    found = head_other o.is_live (bytes_eq o.name n) (named_object id o) (names_from (suc id) os) n refl is
        ∙ h.2.found ∙ ap (λ (k : ℕ). Some (named_object k h.2.object)) (omega arith);
  },
)

places : (from id : ℕ) (n : Name) (os : List Object) → Places from id n os (position_from (is_named n) from os)
places from id n [] = refl
places from id n (o ∷ os) =
    places_then from id n o os (is_named n o) (position_from (is_named n) (from + 1) os) refl
    (places (from + 1) (suc id) n os)

-- an object that is there, and is found
pub record IsFound (os : List Object) (n : Name) (id : ℕ) : Type 0 where
  pub object : Object
  pub there : at_id os id ≡ Some object
  pub found : named (names_from 1 os) n ≡ Some (named_object id object)

by_id : (os : List Object) (n : Name) (place : Option ℕ) (id : ℕ) → Places 0 1 n os place
    → option_map (λ (p : ℕ). p + 1) place ≡ Some id → IsFound os n id
by_id os n None id h is = absurd cc
by_id os n (Some place) id h is =
    let at : place + 1 ≡ id = cc in
    let same : suc h.0 ≡ id = omega (arith, h.1, at) in
    record {
      object = h.2.object;
      there = ap (at_id os) (sym same) ∙ h.2.there;
      found = h.2.found ∙ ap (λ (k : ℕ). Some (named_object k h.2.object)) (omega (arith, same));
    }

by_none : (os : List Object) (n : Name) (place : Option ℕ) → Places 0 1 n os place
    → option_map (λ (p : ℕ). p + 1) place ≡ None → named (names_from 1 os) n ≡ None
by_none os n None h is = h
by_none os n (Some place) h is = absurd cc

all_places : (os : List Object) (n : Name) → Places 0 1 n os (position (is_named n) os)
all_places os n = subst (Places 0 1 n os) (sym (position_from-zero (is_named n) os)) (places 0 1 n os)

pub place_named : (os : List Object) (n : Name) (id : ℕ) → id_of n os ≡ Some id → IsFound os n id
place_named os n id is = by_id os n (position (is_named n) os) id (all_places os n) is

pub none_named : (os : List Object) (n : Name) → id_of n os ≡ None → named (names_from 1 os) n ≡ None
none_named os n is = by_none os n (position (is_named n) os) (all_places os n) is

-- ---- in the catalog

named_id : (c : Catalog) (n : Name) → id_of n (state_of c).objects ≡ id_of n (stored_of c).objects
named_id c n = ap (id_of n) (objects_are c) ∙ id_of_meant n (stored_of c).objects

-- what is at the id of a name
at_name : (c : Catalog) (n : Name) (id : ℕ) → Some id ≡ id_of n (stored_of c).objects
    → IsFound (state_of c).objects n id
at_name c n id is = place_named (state_of c).objects n id (named_id c n ∙ sym is)

pub not_named : (c : Catalog) (n : Name) → None ≡ id_of n (stored_of c).objects
    → named (names_from 1 (state_of c).objects) n ≡ None
not_named c n is = none_named (state_of c).objects n (named_id c n ∙ sym is)

pub not_lost : (c : Catalog) (n : Name) (id : ℕ) → Some id ≡ id_of n (stored_of c).objects
    → None ≡ at_id (stored_of c).objects id → ⊥
not_lost c n id is lost =
    let h = at_name c n id is in
    let none : Some h.object ≡ None =
    sym h.there ∙ object_there c id ∙ ap (option_map object_meant) (sym lost) in
    cc

pub is_named_so : (c : Catalog) (n : Name) (id : ℕ) (o : StoredObject) → Some id ≡ id_of n (stored_of c).objects
    → Some (object_in (kept_object o)) ≡ at_id (stored_of c).objects id
    → named (names_from 1 (state_of c).objects) n ≡ Some (named_object id (object_of o))
is_named_so c n id o is there =
    let h = at_name c n id is in
    let same : Some h.object ≡ Some (object_of o) =
    sym h.there ∙ object_there c id ∙ ap (option_map object_meant) (sym there) in
    h.found ∙ ap (option_map (named_object id)) same
