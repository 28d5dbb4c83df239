-- How many objects pass a test, of the code's and of those that the file says.
use Rattle.std.proofs.Common.{◌≡◌, Bool, List, refl, ◌∙◌}
use Rattle.std.specs.Prelude.{count_by}
use Rattle.wh_state.specs.Stored as machine
use Rattle.wh_state.proofs.IdLaws.{map_count}
use Rattle.wh_catalog.specs.declared.object.StoredObject.{StoredObject}
use Rattle.wh_catalog.specs.Undoable.{KeptObject, object_in}
use Rattle.wh_catalog.specs.Object.{kept_object, kept_objects, stored_objects}

pub counted_by : (p : machine.StoredObject → Bool) (xs : List StoredObject)
    → count_by p (stored_objects xs) ≡ count_by (λ o. p (object_in (kept_object o))) xs
counted_by p xs =
    map_count object_in (λ (k : KeptObject). p (object_in k)) p (λ k. refl) (kept_objects xs)
    ∙ map_count kept_object (λ (o : StoredObject). p (object_in (kept_object o))) (λ (k : KeptObject). p (object_in k))
    (λ o. refl) xs
