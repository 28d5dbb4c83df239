-- A task at its place, changed by a call that hands out what it had before, if it is a task.
use Rattle.std.proofs.Common.{◌≡◌, ℕ, List, Option, Some, None, get_or, set, ap, ◌∙◌}
use Rattle.std.specs.Prelude.{IfSome, IfNone}
use Rattle.std.specs.Option.{option_and_then}
use Rattle.wh_state.specs.Task.{Task}
use Rattle.wh_state.specs.State.{task_in, changed_at}
use Rattle.wh_state.specs.Objects.{as_task, task_at}
use Rattle.wh_catalog.specs.declared.object.StoredObject.{StoredObject}
use Rattle.wh_catalog.specs.Object.{kept_object, kept_objects, IsPlaceOf}
use Rattle.wh_catalog.specs.Back.{on_task_kept}
use Rattle.wh_catalog.proofs.Places.{kept, put_back}

module _ {xs : List StoredObject} {id place : ℕ} {old : StoredObject} (at : IsPlaceOf id xs place)
    (is : old ≡ get_or xs place old) where
  pub none_there : {A : Type 0} (before : Option A) → IfNone before (task_in (kept_object old).kind ≡ None)
      → IfNone before (task_at (kept_objects xs) id ≡ None)
  none_there None none = ap (option_and_then as_task) (kept at is) ∙ none
  none_there (Some b) none = tt

  pub back_there : {A : Type 0} (before : Option A) (new : StoredObject) (change : A → Task → Task)
      → IfSome before (λ b. on_task_kept (change b) (kept_object new) ≡ kept_object old)
      → IfSome before (λ b. changed_at (kept_objects (set xs place new)) id (on_task_kept (change b)) ≡ kept_objects xs)
  back_there None new change back = tt
  back_there (Some b) new change back = put_back at is new (on_task_kept (change b)) back
