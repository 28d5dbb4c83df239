-- What is asked of live tasks, and what is written for a task.
--     meets, follows              whether a live task meets a condition, and is directly behind another
--     first_child                 the least id of one that follows another directly
--     limit_refusal               the first limit that a new task is beyond; graph_refusal, of its graph
--     put_written                 what is written for a task of another state
--     drop_refusal                the first test that DROP TASK fails of its own
use Rattle.std.specs.Prelude.{ℕ, suc, Bool, false, List, [], ◌∷◌, length, map, Option, Some, None}
use Rattle.std.specs.Prelude.{if◌then◌else◌}
use Rattle.std.specs.Option.{option_map_or}
use Rattle.wh_value.specs.declared.limit.Limit.TheVariants as limits
use Rattle.wh_ddl_naming.specs.Tasks.{NewTask}
use Rattle.wh_reply.specs.Reply.{Refusal, OverLimit}
use Rattle.wh_state.specs.State.{Object, State}
use Rattle.wh_state.specs.Edits.{is_among}
use Rattle.wh_state.specs.Task.{TaskState, Task}
use Rattle.wh_state.specs.Commit.{Change, SetsTask}
use Rattle.wh_graph.specs.Graph.{Tasks}
use Rattle.wh_machine.specs.Tests.{refused_if, refused_past, first_of}
use Rattle.wh_machine.specs.Definitions.{is_long, count_refusals}
use Rattle.wh_machine.specs.Tasks as machine
use Rattle.wh_machine.specs.Tasks.{graph_size, schedule_refusal, is_same_state, root_at, root_running, root_resumed}
use Rattle.wh_machine.specs.Tasks.{has_children, children_from}

abbrev pub meets : (Task → Bool) → Option Task → Bool
meets takes t = option_map_or takes t false

abbrev pub follows : ℕ → Task → Bool
follows parent t = is_among parent t.after

-- of these tasks, the first of which has that id
abbrev pub first_child : ℕ → ℕ → Tasks → Option ℕ
first_child parent id [] = None
first_child parent id (t ∷ ts) = if meets (follows parent) t then Some id else first_child parent (suc id) ts

-- ---- CREATE TASK: limits, behind the test of its root

abbrev pub graph_refusal : List Object → List ℕ → Option Refusal
graph_refusal objects after = first_of (
    refused_past limits.GraphTasks (graph_size objects after)
    ∷ refused_past limits.Predecessors (length after)
    ∷ first_of (map (machine.child_refusal objects) after)
    ∷ [])

abbrev pub limit_refusal : State → NewTask → Option Refusal
limit_refusal s n = first_of (
    first_of (count_refusals s 0)
    ∷ refused_if (is_long n.name) (OverLimit limits.Name)
    ∷ graph_refusal s.objects n.after
    ∷ schedule_refusal n.minutes
    ∷ [])

-- ---- ALTER TASK

-- nothing where it is so already
abbrev pub put_written : ℕ → TaskState → TaskState → List Change
put_written id old new = if is_same_state old new then [] else SetsTask id new ∷ []

abbrev pub put_written_to : ℕ → (Task → TaskState) → Option Task → List Change
put_written_to id new None = []
put_written_to id new (Some t) = put_written id t.state (new t)

-- ---- DROP TASK

abbrev pub drop_refusal : List Object → ℕ → Option Refusal
drop_refusal objects id = first_of (
    root_running objects (root_at objects id)
    ∷ root_resumed objects (root_at objects id)
    ∷ has_children objects (children_from id 1 objects)
    ∷ [])
