-- ALTER TASK, EXECUTE TASK and DROP TASK: their tests, and what is written for them.
--     put_written_as       a task of another state
--     start_written_as     a run that begins
--     child_told           the first task that follows another
use Rattle.std.proofs.Common.{◌≡◌, ℕ, suc, Bool, true, false, List, [], ◌∷◌, ◌++◌, Option, Some, None, option_map}
use Rattle.std.proofs.Common.{refl, sym, ap, ◌∙◌}
use Rattle.std.specs.Prelude.{if◌then◌else◌}
use Rattle.wh_reply.specs.Reply.{Refusal, HasChildren}
use Rattle.wh_state.specs.State.{Object}
use Rattle.wh_state.specs.Task.{TaskState, Task}
use Rattle.wh_state.specs.Act.{PutsTask}
use Rattle.wh_state.specs.Commit.{SetsTask, StartsRun}
use Rattle.wh_state.specs.Objects.{name_at, task_at, live_task, live_tasks}
use Rattle.wh_state.specs.Stored.{StoredObject}
use Rattle.wh_state.specs.Written.{written}
use Rattle.wh_graph.specs.Graph.{Tasks, kept_tasks}
use Rattle.wh_machine.specs.Tasks.{is_same_state, put_to, start_acts, children_from, has_children}
use Rattle.wh_catalog.specs.Catalog.{stored_of, state_of}
use Rattle.wh_catalog.specs.declared.catalog.Catalog.{Catalog}
use Rattle.wh_decide.specs.Tasks.{meets, follows, first_child, put_written_to}
use Rattle.wh_decide.proofs.CatalogLemmas.{task_there, tasks_are}

-- ---- a task of another state

puts_as : (stamp : ℕ) (objects : List StoredObject) (id : ℕ) (new : Task → TaskState) (found : Option Task)
    → put_written_to id new found ≡ written stamp objects (put_to id new found)
puts_as stamp objects id new None = refl
puts_as stamp objects id new (Some t) = by_same (is_same_state t.state (new t))
  where
    by_same : (same : Bool) → (if same then [] else SetsTask id (new t) ∷ [])
        ≡ written stamp objects (if same then [] else PutsTask id (new t) ∷ [])
    by_same true = refl
    by_same false = refl

pub put_written_as : (c : Catalog) (stamp id : ℕ) (new : Task → TaskState)
    → put_written_to id new (task_at (stored_of c).objects id)
    ≡ written stamp (stored_of c).objects (put_to id new (task_at (state_of c).objects id))
put_written_as c stamp id new =
    ap (put_written_to id new) (task_there c id)
    ∙ puts_as stamp (stored_of c).objects id new (task_at (state_of c).objects id)

-- ---- a run that begins

pub start_written_as : (c : Catalog) (stamp root : ℕ)
    → StartsRun root (kept_tasks (live_tasks (stored_of c).objects) root) ∷ []
    ≡ written stamp (stored_of c).objects (start_acts (state_of c).objects root)
start_written_as c stamp root =
    ap (λ (tasks : Tasks). StartsRun root (kept_tasks tasks root) ∷ []) (sym (tasks_are c))

-- ---- the first task that follows another

abbrev told : List Object → Option ℕ → Option Refusal
told objects child = option_map (λ (id : ℕ). HasChildren (name_at objects id)) child

child_then : (all : List Object) (id : ℕ) (is : Bool) (ids : List ℕ) (behind : Option ℕ)
    → has_children all ids ≡ told all behind
    → has_children all ((if is then id ∷ [] else []) ++ ids) ≡ told all (if is then Some id else behind)
child_then all id true ids behind h = refl
child_then all id false ids behind h = h

children_as : (all : List Object) (parent id : ℕ) (objects : List Object)
    → has_children all (children_from parent id objects) ≡ told all (first_child parent id (live_tasks objects))
children_as all parent id [] = refl
children_as all parent id (o ∷ os) =
    child_then all id (meets (follows parent) (live_task o)) (children_from parent (suc id) os)
    (first_child parent (suc id) (live_tasks os)) (children_as all parent (suc id) os)

unmapped : (found : Option ℕ) → option_map (λ (id : ℕ). id) found ≡ found
unmapped None = refl
unmapped (Some id) = refl

-- as the code finds it among the live tasks
pub child_told : (c : Catalog) (id : ℕ) (tasks : Tasks) (found at : Option ℕ) → tasks ≡ live_tasks (stored_of c).objects
    → option_map (λ (child : ℕ). child) found ≡ first_child id 1 tasks → found ≡ at
    → has_children (state_of c).objects (children_from id 1 (state_of c).objects) ≡ told (state_of c).objects at
child_told c id tasks found at are is same =
    children_as (state_of c).objects id 1 (state_of c).objects
    ∙ ap (told (state_of c).objects)
    (ap (first_child id 1) (tasks_are c ∙ sym are) ∙ sym is ∙ unmapped found ∙ same)
