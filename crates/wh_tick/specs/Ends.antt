-- The end of a task, as a run and as changes.
--     behind_as, run_as     a task of the run behind the end of one, and the run
--     count_written         the root's state, where the run ends and its count changes
--     end_changes           the changes of an end, by what it leaves
--     end_written           those of the end of a task of a root's run
use Rattle.std.specs.Prelude.{ℕ, List, [], ◌∷◌, ◌++◌, map, Some, nat_eq, if◌then◌else◌}
use Rattle.wh_state.specs.Task.{Ending, Skipped, TaskRun, Run, TaskState, Task, ended_as}
use Rattle.wh_state.specs.State.{Object}
use Rattle.wh_state.specs.Objects.{live_tasks}
use Rattle.wh_state.specs.Edits.{is_among}
use Rattle.wh_state.specs.Commit.{Change, SetsTask, FinishesTask}
use Rattle.wh_graph.specs.Graph.{is_under_way, skipped_behind, run_behind, has_failed}
use Rattle.wh_graph.specs.Root.{state_behind}

-- ---- the run

abbrev pub skipped_as : List ℕ → TaskRun → TaskRun
skipped_as skipped r = if is_among r.task skipped then record r { ending = Some Skipped } else r

abbrev pub behind_as : List ℕ → ℕ → Ending → TaskRun → TaskRun
behind_as skipped task ending r = skipped_as skipped (ended_as task ending r)

abbrev pub run_as : List ℕ → ℕ → Ending → Run → Run
run_as skipped task ending run = map (behind_as skipped task ending) run

-- ---- changes

abbrev pub state_written : ℕ → TaskState → TaskState → List Change
state_written root old new = if nat_eq old.failures new.failures then [] else SetsTask root new ∷ []

abbrev pub count_written : ℕ → TaskState → Run → List Change
count_written root s behind =
    if is_under_way behind then [] else state_written root s (state_behind (has_failed behind) s)

abbrev pub end_changes : ℕ → TaskState → ℕ → Ending → List ℕ → Run → List Change
end_changes root s task ending skipped behind = FinishesTask root task ending
    ∷ map (λ id. FinishesTask root id Skipped) skipped
    ++ count_written root s behind

abbrev pub end_written : List Object → ℕ → Task → ℕ → Ending → List Change
end_written objects root r task ending = end_changes root r.state task ending
    (skipped_behind (live_tasks objects) r.run task ending) (run_behind (live_tasks objects) r.run task ending)
