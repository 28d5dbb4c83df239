-- What it takes to undo a commit.
--     undone     the objects before steps that were taken one after the other
--     Undoes     leads back from a catalog to what it was
--     IsSteady   a step that changed the partitions of no table
use Rattle.std.specs.Prelude.{◌≡◌, List, [], ◌∷◌}
use Rattle.wh_state.specs.State.{changed_at}
use Rattle.wh_state.specs.Task.{with_state}
use Rattle.wh_state.specs.Dynamic.{with_dynamic_state}
use Rattle.wh_task.specs.View.{state_of, run_of}
use Rattle.wh_dynamic.specs.View as dynamics
use Rattle.wh_version.specs.Lists.{but_last}
use Rattle.wh_catalog.specs.declared.catalog.Catalog.{Catalog}
use Rattle.wh_catalog.specs.declared.undo.Step.{Step}
use Rattle.wh_catalog.specs.declared.undo.Step.TheVariants.{MadeObject, DroppedObject, PushedVersion, SetOffset}
use Rattle.wh_catalog.specs.declared.undo.Step.TheVariants.{SetTask, SetRun, SetDynamic, SetGroups}
use Rattle.wh_catalog.specs.declared.undo.Undo.{Undo}
use Rattle.wh_catalog.specs.Undoable.{KeptObject}
use Rattle.wh_catalog.specs.Back.{object_taken_back, object_put_back, on_task_kept, holding, on_dynamic_kept}
use Rattle.wh_catalog.specs.Back.{object_regrouped}
use Rattle.wh_catalog.specs.Back.{lives_again}
use Rattle.wh_catalog.specs.Catalog.{kept_of}

abbrev pub IsSteady : Step → Type 0
IsSteady MadeObject = ⊥
IsSteady (PushedVersion p) = ⊥
IsSteady _ = Unit {0}

abbrev pub step_undone : Step → List KeptObject → List KeptObject
step_undone MadeObject objects = but_last objects
step_undone (DroppedObject id) objects = lives_again id objects
step_undone (PushedVersion p) objects = changed_at objects p.id (object_taken_back p.next_row)
step_undone (SetOffset id offset) objects = changed_at objects id (object_put_back offset)
step_undone (SetTask id state) objects = changed_at objects id (on_task_kept (with_state (state_of state)))
step_undone (SetRun root run) objects = changed_at objects root (on_task_kept (holding (run_of run.items)))
step_undone (SetDynamic id state) objects =
    changed_at objects id (on_dynamic_kept (with_dynamic_state (dynamics.state_of state)))
step_undone (SetGroups id was) objects = changed_at objects id (object_regrouped was)

-- the last step is undone first
abbrev pub undone : List Step → List KeptObject → List KeptObject
undone [] objects = objects
undone (step ∷ steps) objects = step_undone step (undone steps objects)

pub record Undoes (undo : Undo) (new old : Catalog) : Type 0 where
  pub objects : undone undo.steps.items (kept_of new) ≡ kept_of old
  pub last : undo.last ≡ old.last
  pub committed : undo.committed ≡ old.committed
