-- Tasks: CREATE TASK, ALTER TASK, EXECUTE TASK and DROP TASK.
--     start_acts      a run of a root that begins
--     create_task, resume_task, suspend_task, execute_task, drop_task     their outcomes
use Rattle.std.specs.Prelude.{ℕ, zero, suc, ◌+◌, Bool, true, false, not, ◌&&◌, if◌then◌else◌, List, [], ◌∷◌, ◌++◌}
use Rattle.std.specs.Prelude.{length}
use Rattle.std.specs.Prelude.{map, Option, Some, None, unwrap_or, nat_eq, count_by}
use Rattle.std.specs.Option.{option_map_or}
use Rattle.wh_value.specs.declared.limit.Limit.TheVariants as limits
use Rattle.wh_ddl_naming.specs.Tasks.{NewTask}
use Rattle.wh_reply.specs.Reply.{Refusal, RootRunning, RootNotSuspended, HasChildren, OverLimit, CreatedTask}
use Rattle.wh_reply.specs.Reply.{DroppedTask, Resumed, Suspended, Started}
use Rattle.wh_state.specs.Task.{TaskBody, TaskState, Task, Run}
use Rattle.wh_state.specs.State.{State, Object}
use Rattle.wh_state.specs.Edits.{is_among}
use Rattle.wh_state.specs.Act.{Act, MakesTask, PutsTask, BeginsRun, DropsObject}
use Rattle.wh_state.specs.Objects.{name_at, task_at}
pub use Rattle.wh_state.specs.Objects.{live_task, live_tasks}
use Rattle.wh_graph.specs.Graph.{is_under_way, kept_tasks}
use Rattle.wh_machine.specs.Tests.{refused_if, refused_past, first_of}
use Rattle.wh_machine.specs.Outcome.{Machine, Outcome, commits, unless}
use Rattle.wh_machine.specs.Definitions.{is_long, count_refusals}

-- ---- the root of a task

abbrev pub root_at : List Object → ℕ → ℕ
root_at objects id = option_map_or (λ t. t.root) (task_at objects id) id

abbrev pub is_resumed_at : List Object → ℕ → Bool
is_resumed_at objects id = option_map_or (λ t. t.state.is_resumed) (task_at objects id) false

abbrev pub run_at : List Object → ℕ → Run
run_at objects root = option_map_or (λ t. t.run) (task_at objects root) []

abbrev pub root_running : List Object → ℕ → Option Refusal
root_running objects root = refused_if (is_under_way (run_at objects root)) (RootRunning (name_at objects root))

abbrev pub root_resumed : List Object → ℕ → Option Refusal
root_resumed objects root = refused_if (is_resumed_at objects root) (RootNotSuspended (name_at objects root))

-- ---- CREATE TASK

-- how many live tasks meet a condition
abbrev pub tasks_that : (Task → Bool) → List Object → ℕ
tasks_that takes objects = count_by (λ o. option_map_or takes (live_task o) false) objects

-- of a task behind others its root, that of the first
abbrev pub root_refusals : List Object → List ℕ → List (Option Refusal)
root_refusals objects [] = []
root_refusals objects (first ∷ others) = root_resumed objects (root_at objects first) ∷ []

-- the tasks of its graph, with it
abbrev pub graph_size : List Object → List ℕ → ℕ
graph_size objects [] = 1
graph_size objects (first ∷ others) = tasks_that (λ t. nat_eq t.root (root_at objects first)) objects + 1

abbrev pub child_refusal : List Object → ℕ → Option Refusal
child_refusal objects id = refused_past limits.Children (tasks_that (λ t. is_among id t.after) objects + 1)

abbrev pub schedule_refusal : Option ℕ → Option Refusal
schedule_refusal None = None
schedule_refusal (Some zero) = Some (OverLimit limits.LeastSchedule)
schedule_refusal (Some (suc minutes)) = refused_past limits.MostSchedule (suc minutes)

-- the first test that a new task fails, behind those of names
unfoldable pub task_refusal : State → Option Refusal → NewTask → Option Refusal
task_refusal s wrong n = first_of (
    wrong
    ∷ root_refusals s.objects n.after
    ++ count_refusals s 0
    ++ refused_if (is_long n.name) (OverLimit limits.Name)
    ∷ refused_past limits.GraphTasks (graph_size s.objects n.after)
    ∷ refused_past limits.Predecessors (length n.after)
    ∷ map (child_refusal s.objects) n.after
    ++ schedule_refusal n.minutes
    ∷ [])

abbrev pub body_of : NewTask → TaskBody
body_of n = record { when = n.when; body = n.body; body_text = n.body_text }

unfoldable pub create_task : Machine → Option Refusal → NewTask → Outcome
create_task m wrong n = unless (task_refusal m.state wrong n)
    (commits m (CreatedTask n.name) (MakesTask n.name (unwrap_or n.minutes 0) n.after (body_of n) ∷ []))

-- ---- ALTER TASK

abbrev pub is_same_truth : Bool → Bool → Bool
is_same_truth true b = b
is_same_truth false b = not b

abbrev pub is_same_state : TaskState → TaskState → Bool
is_same_state a b = is_same_truth a.is_resumed b.is_resumed && nat_eq a.base b.base
    && nat_eq a.last_start b.last_start && nat_eq a.failures b.failures

-- none where it is so already
abbrev pub puts : ℕ → TaskState → TaskState → List Act
puts id old new = if is_same_state old new then [] else PutsTask id new ∷ []

abbrev pub put_to : ℕ → (Task → TaskState) → Option Task → List Act
put_to id new None = []
put_to id new (Some t) = puts id t.state (new t)

-- the base is that of a root
abbrev pub resumed_state : ℕ → ℕ → Task → TaskState
resumed_state stamp id t = record t.state {
  is_resumed = true;
  base = if nat_eq t.root id then stamp else t.state.base;
  failures = 0;
}

abbrev pub suspended_state : Task → TaskState
suspended_state t = record t.state { is_resumed = false }

-- a task that follows others is resumed only while its root is suspended
abbrev pub resume_refusal : List Object → ℕ → Option Refusal
resume_refusal objects id =
    if nat_eq (root_at objects id) id then None else root_resumed objects (root_at objects id)

unfoldable pub resume_task : Machine → Option Refusal → ℕ → Outcome
resume_task m wrong id = unless (first_of (wrong ∷ resume_refusal m.state.objects id ∷ []))
    (commits m (Resumed (name_at m.state.objects id))
    (put_to id (resumed_state m.state.last id) (task_at m.state.objects id)))

unfoldable pub suspend_task : Machine → Option Refusal → ℕ → Outcome
suspend_task m wrong id = unless wrong (commits m (Suspended (name_at m.state.objects id))
    (put_to id suspended_state (task_at m.state.objects id)))

-- ---- EXECUTE TASK

-- it leaves the stamp of the last run that the schedule began
abbrev pub start_acts : List Object → ℕ → List Act
start_acts objects root = BeginsRun root (kept_tasks (live_tasks objects) root) ∷ []

unfoldable pub execute_task : Machine → Option Refusal → ℕ → Outcome
execute_task m wrong root = unless (first_of (wrong ∷ root_running m.state.objects root ∷ []))
    (commits m (Started (name_at m.state.objects root)) (start_acts m.state.objects root))

-- ---- DROP TASK

-- the live tasks that follow one directly, by rising ids
abbrev pub children_from : ℕ → ℕ → List Object → List ℕ
children_from parent id [] = []
children_from parent id (o ∷ os) =
    (if option_map_or (λ t. is_among parent t.after) (live_task o) false then id ∷ [] else [])
    ++ children_from parent (suc id) os

abbrev pub has_children : List Object → List ℕ → Option Refusal
has_children objects [] = None
has_children objects (child ∷ others) = Some (HasChildren (name_at objects child))

unfoldable pub drop_task : Machine → Option Refusal → ℕ → Outcome
drop_task m wrong id = unless (first_of (
    wrong
    ∷ root_running m.state.objects (root_at m.state.objects id)
    ∷ root_resumed m.state.objects (root_at m.state.objects id)
    ∷ has_children m.state.objects (children_from id 1 m.state.objects)
    ∷ []))
    (commits m (DroppedTask (name_at m.state.objects id)) (DropsObject id ∷ []))
