-- The objects of a catalog, as the machine's state has them.
--     named_id        the id of a name
--     names_are       the objects that statements may name
use Rattle.std.proofs.Common.{◌≡◌, ℕ, List, [], ◌∷◌, map, refl, sym, ap, ◌∙◌}
use Rattle.wh_state.specs.State.{Object, id_of}
use Rattle.wh_state.specs.Stored.{object_meant}
use Rattle.wh_state.proofs.MeaningLaws.{id_of_meant}
use Rattle.wh_catalog.specs.Catalog.{stored_of, state_of}
use Rattle.wh_catalog.specs.Undoable.{object_in}
use Rattle.wh_catalog.specs.Object.{kept_object, object_of}
use Rattle.wh_catalog.specs.declared.catalog.Catalog.{Catalog}
use Rattle.wh_catalog.specs.declared.object.StoredObject.{StoredObject}
use Rattle.wh_txn.proofs.SeenLemmas.{objects_are}

pub named_id : (c : Catalog) (name : List ℕ) → id_of name (stored_of c).objects ≡ id_of name (state_of c).objects
named_id c name = sym (ap (id_of name) (objects_are c) ∙ id_of_meant name (stored_of c).objects)

objects_by : (objects : List StoredObject)
    → map object_of objects ≡ map object_meant (map object_in (map kept_object objects))
objects_by [] = refl
objects_by (o ∷ os) = ap (λ (others : List Object). object_of o ∷ others) (objects_by os)

pub names_are : (c : Catalog) (objects : List StoredObject)
    → map object_in (map kept_object objects) ≡ (stored_of c).objects → map object_of objects ≡ (state_of c).objects
names_are c objects is = objects_by objects ∙ ap (map object_meant) is ∙ sym (objects_are c)
