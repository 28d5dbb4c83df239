-- When what a commit does to tasks applies, as tests.
--     is_task_that        whether an object is a live task that passes a test
--     applies_below       whether a new task of a root applies
--     task_applies        whether a new task applies
--     state_applies       whether a task takes a state
--     run_applies         whether a run of a root may begin
--     end_applies         whether a task waits in the run of a root
--     may_go              whether an object that is dropped is no task, or one that may go
use Rattle.std.specs.Prelude.{ℕ, Bool, true, false, not, ◌&&◌, ◌||◌, List, length, Option, nat_eq, nat_lt, nat_le}
use Rattle.std.specs.List.{list_all, list_any}
use Rattle.std.specs.Option.{option_and_then, option_map_or}
use Rattle.wh_value.specs.Limit.{bound}
use Rattle.wh_value.specs.declared.limit.Limit.TheVariants as limits
use Rattle.wh_state.specs.Task.{Task, TaskState, most_failures}
use Rattle.wh_state.specs.State.{at_id}
use Rattle.wh_state.specs.Stored.{StoredObject}
use Rattle.wh_state.specs.Objects.{task_at, live_task}
use Rattle.wh_state.specs.Edits.{is_among}
use Rattle.wh_state.specs.Commit.{TaskChange, root_among, count_of_root, child_count, waits, waits_in}
use Rattle.wh_catalog.specs.Conditions.{is_new_object}

abbrev pub is_task_that : (Task → Bool) → Option StoredObject → Bool
is_task_that takes found = option_map_or takes (option_and_then live_task found) false

abbrev pub has_root : ℕ → Task → Bool
has_root root t = nat_eq t.root root

abbrev pub is_at_rest : Task → Bool
is_at_rest t = not (list_any waits t.run)

-- ---- new tasks

abbrev pub is_of_root : List StoredObject → ℕ → ℕ → Bool
is_of_root objects root id = is_task_that (has_root root) (at_id objects id)

abbrev pub has_room : List StoredObject → ℕ → Bool
has_room objects id = nat_lt (child_count objects id) (bound limits.Children)

abbrev pub is_scheduled : ℕ → List ℕ → Bool
is_scheduled minutes after = nat_le minutes (bound limits.MostSchedule)
    && (nat_eq (length after) 0 || nat_eq minutes 0)

-- whether the graph of a root takes one more behind these
abbrev pub joins : List StoredObject → ℕ → List ℕ → Bool
joins objects root after = nat_le (length after) (bound limits.Predecessors)
    && (list_all (is_of_root objects root) after
    && (nat_lt (count_of_root objects root) (bound limits.GraphTasks) && list_all (has_room objects) after))

abbrev pub applies_below : List StoredObject → ℕ → TaskChange → Bool
applies_below objects root c = is_new_object objects c.id c.name
    && (is_scheduled c.minutes c.after && joins objects root c.after)

abbrev pub task_applies : List StoredObject → TaskChange → Bool
task_applies objects c = applies_below objects (root_among objects c.id c.after) c

-- ---- states and runs

abbrev pub state_applies : Option StoredObject → TaskState → Bool
state_applies found state = is_task_that (λ t. nat_le state.failures most_failures) found

abbrev pub starts : ℕ → Task → Bool
starts root t = has_root root t && is_at_rest t

abbrev pub run_applies : List StoredObject → ℕ → List ℕ → Bool
run_applies objects root tasks = is_task_that (starts root) (at_id objects root)
    && (is_among root tasks && list_all (is_of_root objects root) tasks)

abbrev pub end_applies : Option StoredObject → ℕ → Bool
end_applies found task = is_task_that (λ t. waits_in t.run task) found

-- ---- drops

abbrev pub task_may_go : List StoredObject → ℕ → Task → Bool
task_may_go objects id t = nat_eq (child_count objects id) 0 && is_task_that is_at_rest (at_id objects t.root)

abbrev pub may_go : List StoredObject → ℕ → Bool
may_go objects id = option_map_or (task_may_go objects id) (task_at objects id) true
