-- Names of objects, and their ids by an index.
--     last_place, last_id     where the last object of a name stands, and its id
--     is_last                 whether the object of an id is the last one of its name
--     AreLast                 each object that lives is the last one of its name
--     KeepsNames              a change that leaves the names, and lets none live before the last one of its name
--     id_at                   the id that an index has for a name
use Rattle.std.specs.Prelude.{◌≡◌, ℕ, suc, ◌+◌, Bool, true, false, cond, nat_eq, bytes_eq}
use Rattle.std.specs.Prelude.{List, [], ◌∷◌, map, length, Option, Some, None, option_map}
use Rattle.std.specs.Option.{option_eq, option_map_or}
use Rattle.std.specs.Coded.{Coded-set, coded_option, coded_ℕ, ×_prop, →_prop, Unit-prop}
use Rattle.std.specs.declared.vec.Vec.{Vec}
use Rattle.indexmap.specs.IndexMap.{IndexMap, get_by}
use Rattle.wh_state.specs.State.{at_id}
use Rattle.wh_catalog.specs.declared.object.StoredObject.{StoredObject}

-- the place in a list with one more before it; with none, that one's if it is meant
abbrev pub or_first : Option ℕ → Bool → Option ℕ
or_first (Some place) is_meant = Some (suc place)
or_first None is_meant = cond is_meant (Some 0) None

abbrev pub last_place : List ℕ → List (List ℕ) → Option ℕ
last_place name [] = None
last_place name (n ∷ ns) = or_first (last_place name ns) (bytes_eq n name)

abbrev pub last_id : List ℕ → List (List ℕ) → Option ℕ
last_id name names = option_map (λ place. place + 1) (last_place name names)

abbrev pub is_last : ℕ → List (List ℕ) → Bool
is_last id names = option_map_or (λ name. option_eq nat_eq (last_id name names) (Some id)) (at_id names id) false

abbrev pub names_of : List StoredObject → List (List ℕ)
names_of objects = map (λ o. o.name) objects

abbrev pub AreLast : List StoredObject → Type 0
AreLast [] = Unit {0}
AreLast (o ∷ os) = (o.is_live ≡ true → last_place o.name (names_of os) ≡ None) × AreLast os

pub AreLast-prop : (os : List StoredObject) → IsProp (AreLast os)
AreLast-prop [] = Unit-prop
AreLast-prop (o ∷ os) =
    ×_prop (→_prop (Coded-set (coded_option coded_ℕ) (last_place o.name (names_of os)) None)) (AreLast-prop os)

pub record KeepsNames (old new : List StoredObject) : Type 0 where
  pub count : length new ≡ length old
  pub names : names_of new ≡ names_of old
  pub last : AreLast old → AreLast new

abbrev pub id_at : {A S : Type 0} → IndexMap (Vec ℕ A) ℕ S → List ℕ → Option ℕ
id_at names name = get_by (λ key. bytes_eq name key.items) names
