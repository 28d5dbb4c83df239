use Rattle.std.proofs.Common.{◌≡◌, ℕ, ◌≤◌, List, length, Option, subst, ap, ◌∙◌, arith}
use Rattle.std.specs.Prelude.{IfOk}
use Rattle.std.proofs.lemmas.List.{length-map}
use Rattle.std.proofs.lemmas.Result.{IfOk-weaker}
use denote.Ref.{Bor}
use Rattle.wh_value.specs.Limit.{bound}
use Rattle.wh_value.specs.declared.limit.Limit.TheVariants as limits
use Rattle.wh_state.specs.Task as machine
use Rattle.wh_state.specs.Objects.{live_task, live_tasks}
use Rattle.wh_task.specs.declared.task.Task.{Task}
use Rattle.wh_task.specs.View.{live_of, tasks_of}
use Rattle.wh_catalog.specs.declared.object.StoredObject.{StoredObject}
use Rattle.wh_catalog.specs.Undoable.{object_in}
use Rattle.wh_catalog.specs.Object.{kept_object, kept_objects, stored_objects}
use Rattle.wh_catalog.specs.Catalog.{stored_of, kept_of}
use Rattle.wh_catalog.proofs.catalog.Catalog.live_tasks.Goals as goal

pub returns-clause-tasks : goal.returns-clause-tasks
unfolding stored_of kept_of
returns-clause-tasks c =
    let P : List StoredObject → Type 0 = λ l.
    IfOk c.live_tasks.result (λ tasks. tasks_of tasks.items ≡ live_tasks (stored_objects l)) in
    subst P c.deref.ensures.value c.live_tasks.ensures

-- there are as many as objects
pub returns-clause-bounded : goal.returns-clause-bounded
returns-clause-bounded c =
    let objects = c.args.self.now.objects.items in
    IfOk-weaker c.live_tasks.result _ _
    (λ tasks is. within (length objects) tasks.items _ c.args.self.now.ids
    (is ∙ ap (λ (l : List StoredObject). live_tasks (stored_objects l)) c.deref.ensures.value)
    (length-map (stored_objects objects) live_task ∙ length-map (kept_objects objects) object_in
    ∙ length-map objects kept_object))
    c.live_tasks.ensures
  where
    within : (count : ℕ) (tasks : List (Option (Bor Task))) (live : List (Option machine.Task))
        → count ≤ bound limits.ObjectIds → tasks_of tasks ≡ live → length live ≡ count
        → length tasks ≤ bound limits.ObjectIds
    within count tasks live few is many = omega (arith, few, length-map tasks live_of, ap length is, many)
