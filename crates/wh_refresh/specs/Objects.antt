-- Objects of the catalog in a list, as the machine and as the file have them.
--     objects_in                as the machine has them
--     stored_in                 as the file has them
--     objects_at                as references point to them
--     filed_at_objects          the partitions that they have in the file
--     filed_one, filed_at_id    those of one of them, and of the one of an id
--     with_made, stored_made, kept_made, filed_made     one that is to be made, if there is one
use Rattle.std.specs.Prelude.{ℕ, List, [], ◌∷◌, map, Option, Some, None}
use denote.Ref.{Bor}
use Rattle.std.specs.Option.{option_map_or}
use Rattle.wh_state.specs.State.{Object, at_id}
use Rattle.wh_state.specs.Stored as machine
use Rattle.wh_filed.specs.Filed.{Filed}
use Rattle.wh_catalog.specs.Undoable.{KeptObject, object_in}
use Rattle.wh_catalog.specs.Object.{kept_object, object_of, filed_in_kind, filed_of_objects}
use Rattle.wh_catalog.specs.declared.object.StoredObject.{StoredObject}

abbrev pub objects_in : List (Bor StoredObject) → List Object
objects_in objects = map (λ o. object_of o.now) objects

abbrev pub stored_in : List (Bor StoredObject) → List machine.StoredObject
stored_in objects = map (λ o. object_in (kept_object o.now)) objects

abbrev pub objects_at : List (Bor StoredObject) → List StoredObject
objects_at objects = map (λ o. o.now) objects

abbrev pub filed_at_objects : List (Bor StoredObject) → List Filed
filed_at_objects objects = filed_of_objects (objects_at objects)

abbrev pub filed_one : Bor StoredObject → List Filed
filed_one o = filed_in_kind (kept_object o.now).kind

abbrev pub filed_at_id : List (Bor StoredObject) → ℕ → List Filed
filed_at_id objects id = option_map_or filed_one (at_id objects id) []

abbrev pub with_made : Option (Bor StoredObject) → List Object
with_made None = []
with_made (Some o) = object_of o.now ∷ []

abbrev pub stored_made : Option (Bor StoredObject) → List machine.StoredObject
stored_made None = []
stored_made (Some o) = object_in (kept_object o.now) ∷ []

abbrev pub kept_made : Option (Bor StoredObject) → List KeptObject
kept_made None = []
kept_made (Some o) = kept_object o.now ∷ []

abbrev pub filed_made : Option (Bor StoredObject) → List Filed
filed_made None = []
filed_made (Some o) = filed_of_objects (o.now ∷ [])
