-- Runs of graphs of tasks.
--     Tasks, after_of            the live tasks by their ids, and the predecessors of one
--     kept_tasks                 the tasks of a run that begins
--     is_under_way               whether something of a run waits
--     are_done                   whether the predecessors of a task that are in the run succeeded
--     skipped_behind             the tasks that become SKIPPED behind one that ended
--     run_behind, has_failed     the run behind it, and whether a task of it failed
use Rattle.std.specs.Prelude.{ℕ, suc, Bool, true, false, not, ◌&&◌, ◌||◌, if◌then◌else◌, List, [], ◌∷◌, ◌++◌}
use Rattle.std.specs.Prelude.{Option, Some, None, is_some, unwrap_or}
use Rattle.std.specs.List.{list_any, list_all}
use Rattle.std.specs.Option.{option_map_or}
use Rattle.wh_state.specs.State.{at_id}
use Rattle.wh_state.specs.Edits.{is_among}
use Rattle.wh_state.specs.Task.{Ending, Succeeded, Failed, Skipped, TaskRun, Run, Task, ended_in}

-- at the place of its id, from 1; None where no live task has the id
abbrev pub Tasks : Type 0
Tasks = List (Option Task)

abbrev pub task_of : Tasks → ℕ → Option Task
task_of tasks id = unwrap_or (at_id tasks id) None

abbrev pub after_of : Tasks → ℕ → List ℕ
after_of tasks id = option_map_or (λ t. t.after) (task_of tasks id) []

abbrev pub follows_one : List ℕ → List ℕ → Bool
follows_one after ids = list_any (λ id. is_among id ids) after

-- ---- a run that begins

-- whether it is resumed and has a predecessor in the run
abbrev pub joins : List ℕ → Option Task → Bool
joins kept task = option_map_or (λ t. t.state.is_resumed && follows_one t.after kept) task false

-- a task has a greater id than its predecessors, so one pass by rising ids is enough
abbrev pub with_joining : List ℕ → ℕ → Tasks → List ℕ
with_joining kept id [] = kept
with_joining kept id (t ∷ ts) = with_joining (if joins kept t then kept ++ id ∷ [] else kept) (suc id) ts

-- the root, whether it is resumed or not, and each resumed task that has a predecessor in the run
unfoldable pub kept_tasks : Tasks → ℕ → List ℕ
kept_tasks tasks root = with_joining (root ∷ []) 1 tasks

-- ---- a run under way

abbrev pub is_waiting : TaskRun → Bool
is_waiting r = not (is_some r.ending)

abbrev pub is_under_way : Run → Bool
is_under_way run = list_any is_waiting run

abbrev pub has_succeeded : Option Ending → Bool
has_succeeded (Some Succeeded) = true
has_succeeded _ = false

-- it isn't one of these, or has succeeded
abbrev pub is_done : List ℕ → TaskRun → Bool
is_done after r = not (is_among r.task after) || has_succeeded r.ending

-- each of these that is in the run has succeeded
abbrev pub are_done : Run → List ℕ → Bool
are_done run after = list_all (is_done after) run

-- ---- the end of a task

abbrev pub if_waiting : TaskRun → List ℕ
if_waiting r = if is_waiting r then r.task ∷ [] else []

-- those that still wait and are reached from some through predecessors in the run
abbrev pub reached_in : Tasks → List ℕ → Run → List ℕ
reached_in tasks reached [] = []
reached_in tasks reached (r ∷ rs) =
    if follows_one (after_of tasks r.task) reached
    then if_waiting r ++ reached_in tasks (reached ++ r.task ∷ []) rs
    else reached_in tasks reached rs

abbrev pub skipped_behind : Tasks → Run → ℕ → Ending → List ℕ
skipped_behind tasks run task Succeeded = []
skipped_behind tasks run task Failed = reached_in tasks (task ∷ []) run
skipped_behind tasks run task Skipped = reached_in tasks (task ∷ []) run

abbrev pub all_skipped : List ℕ → Run → Run
all_skipped [] run = run
all_skipped (id ∷ ids) run = all_skipped ids (ended_in id Skipped run)

unfoldable pub run_behind : Tasks → Run → ℕ → Ending → Run
run_behind tasks run task ending = all_skipped (skipped_behind tasks run task ending) (ended_in task ending run)

abbrev pub is_failed : Option Ending → Bool
is_failed (Some Failed) = true
is_failed _ = false

abbrev pub has_failed : Run → Bool
has_failed run = list_any (λ r. is_failed r.ending) run
