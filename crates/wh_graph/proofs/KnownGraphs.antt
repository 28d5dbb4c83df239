-- Runs of graphs and schedules, worked out by hand.
use Rattle.std.proofs.Common.{◌≡◌, ℕ, Bool, true, false, List, [], ◌∷◌, Option, Some, None, refl}
use Rattle.std.specs.Prelude.{not, nat_eq}
use Rattle.wh_ast.specs.declared.dml.Dml.TheVariants as dml
use Rattle.wh_state.specs.Task.{TaskBody, Ending, Succeeded, Failed, Skipped, TaskRun, Run, TaskState, Task, waiting}
use Rattle.wh_state.specs.Task.{new_task, with_state}
use Rattle.wh_graph.specs.Graph.{Tasks, kept_tasks, skipped_behind, run_behind}
use Rattle.wh_graph.specs.Root.{point_at, is_due, state_behind}
use Rattle.wh_graph.specs.Action.{ready_task, RunsTask, StartsRun, DoesNothing, action}

-- what they run doesn't matter here
abbrev body : TaskBody
body = record { when = None; body = dml.Delete [] None; body_text = [] }

abbrev state : Bool → TaskState
state is_resumed = record { is_resumed = is_resumed; base = 0; last_start = 0; failures = 0 }

abbrev task : Bool → List ℕ → Option Task
task is_resumed after = Some (with_state (state is_resumed) (new_task 0 after 1 body))

abbrev ended : ℕ → Ending → TaskRun
ended id ending = record { task = id; ending = Some ending }

-- ---- a diamond: 2 and 3 behind the root 1, and 4 behind both

abbrev diamond : Tasks
diamond = task false [] ∷ task true (1 ∷ []) ∷ task true (1 ∷ []) ∷ task true (2 ∷ 3 ∷ []) ∷ []

all_of_a_diamond : kept_tasks diamond 1 ≡ 1 ∷ 2 ∷ 3 ∷ 4 ∷ []
unfolding kept_tasks
all_of_a_diamond = refl

-- without a middle task that is suspended; without the last, where both are
without_a_suspended_task :
    kept_tasks (task false [] ∷ task false (1 ∷ []) ∷ task true (1 ∷ []) ∷ task true (2 ∷ 3 ∷ []) ∷ []) 1
    ≡ 1 ∷ 3 ∷ 4 ∷ []
unfolding kept_tasks
without_a_suspended_task = refl

without_what_follows_none : kept_tasks (task false [] ∷ task false (1 ∷ []) ∷ None ∷ task true (2 ∷ []) ∷ []) 1 ≡ 1 ∷ []
unfolding kept_tasks
without_what_follows_none = refl

-- another graph between them
without_other_graphs : kept_tasks (task true [] ∷ task true [] ∷ task true (2 ∷ []) ∷ task true (1 ∷ []) ∷ []) 1
    ≡ 1 ∷ 4 ∷ []
unfolding kept_tasks
without_other_graphs = refl

-- the run of the diamond, with its root and middle tasks as told
abbrev run_of : TaskRun → TaskRun → Run
run_of second third = ended 1 Succeeded ∷ second ∷ third ∷ waiting 4 ∷ []

abbrev root_with : Run → Option Task
root_with run = Some (record (new_task 0 [] 1 body) { run = run })

abbrev diamond_in : Run → Tasks
diamond_in run = root_with run ∷ task true (1 ∷ []) ∷ task true (1 ∷ []) ∷ task true (2 ∷ 3 ∷ []) ∷ []

abbrev all_free : ℕ → Bool
all_free id = true

-- the root first; then a middle task, the other one where it is held back, and the last behind both alone
root_first : ready_task all_free (diamond_in (waiting 1 ∷ waiting 2 ∷ waiting 3 ∷ waiting 4 ∷ [])) ≡ Some (1, 1)
root_first = refl

least_task_first : ready_task all_free (diamond_in (run_of (waiting 2) (waiting 3))) ≡ Some (1, 2)
least_task_first = refl

abbrev but_2 : ℕ → Bool
but_2 id = not (nat_eq id 2)

held_task_passed_over : ready_task but_2 (diamond_in (run_of (waiting 2) (waiting 3))) ≡ Some (1, 3)
held_task_passed_over = refl

last_not_behind_one_alone : ready_task but_2 (diamond_in (run_of (waiting 2) (ended 3 Succeeded))) ≡ None
last_not_behind_one_alone = refl

last_behind_both : ready_task all_free (diamond_in (run_of (ended 2 Succeeded) (ended 3 Succeeded))) ≡ Some (1, 4)
last_behind_both = refl

last_not_behind_a_failed_one : ready_task all_free (diamond_in (run_of (ended 2 Failed) (ended 3 Succeeded))) ≡ None
last_not_behind_a_failed_one = refl

-- a middle task succeeds, fails, is skipped: the last waits, or is SKIPPED
nothing_skipped : skipped_behind diamond (run_of (waiting 2) (waiting 3)) 2 Succeeded ≡ []
nothing_skipped = refl

last_skipped : skipped_behind diamond (run_of (waiting 2) (waiting 3)) 2 Failed ≡ 4 ∷ []
last_skipped = refl

last_skipped_once :
    skipped_behind diamond (ended 1 Succeeded ∷ ended 2 Failed ∷ waiting 3 ∷ ended 4 Skipped ∷ []) 3 Skipped ≡ []
last_skipped_once = refl

goes_on : run_behind diamond (run_of (waiting 2) (waiting 3)) 2 Skipped
    ≡ ended 1 Succeeded ∷ ended 2 Skipped ∷ waiting 3 ∷ ended 4 Skipped ∷ []
unfolding run_behind
goes_on = refl

-- all behind a root that fails, over two others too
all_behind_the_root : run_behind diamond (waiting 1 ∷ waiting 2 ∷ waiting 3 ∷ waiting 4 ∷ []) 1 Failed
    ≡ ended 1 Failed ∷ ended 2 Skipped ∷ ended 3 Skipped ∷ ended 4 Skipped ∷ []
unfolding run_behind
all_behind_the_root = refl

-- not through a task that isn't in the run: 3 was suspended when it began
not_through_another :
    skipped_behind (task true [] ∷ task true (1 ∷ []) ∷ task false (2 ∷ []) ∷ task true (3 ∷ 1 ∷ []) ∷ [])
    (ended 1 Succeeded ∷ waiting 2 ∷ waiting 4 ∷ []) 2 Failed ≡ []
not_through_another = refl

-- ---- schedules: every 5 minutes from the stamp 7

abbrev failing : Bool → ℕ → TaskState
failing is_resumed failures = record { is_resumed = is_resumed; base = 7; last_start = 0; failures = failures }

abbrev scheduled : ℕ → Run → Task
scheduled last_start run = record (new_task 5 [] 1 body) {
  state = record { is_resumed = true; base = 7; last_start = last_start; failures = 0 };
  run = run;
}

points : (point_at 7 5 7 ≡ 7) × (point_at 7 5 300006 ≡ 7) × (point_at 7 5 300007 ≡ 300007)
    × (point_at 7 5 900000 ≡ 600007)
points = (refl, refl, refl, refl)

-- not at the base; from the first time on; once for all that were missed; then at the next
due : (is_due 300006 (scheduled 0 []) ≡ false) × (is_due 300007 (scheduled 0 []) ≡ true)
    × (is_due 900000 (scheduled 0 []) ≡ true) × (is_due 900006 (scheduled 900000 []) ≡ false)
    × (is_due 900007 (scheduled 900000 []) ≡ true)
unfolding is_due
due = (refl, refl, refl, refl, refl)

-- not while a run is under way, but behind it; not without a schedule, and not while suspended
not_beside_a_run : (is_due 300007 (scheduled 0 (waiting 1 ∷ [])) ≡ false)
    × (is_due 300007 (scheduled 0 (ended 1 Failed ∷ [])) ≡ true)
unfolding is_due
not_beside_a_run = (refl, refl)

never_due : (is_due 300007 (record (scheduled 0 []) { minutes = 0 }) ≡ false)
    × (is_due 300007 (record (scheduled 0 []) { state = failing false 0 }) ≡ false)
unfolding is_due
never_due = (refl, refl)

-- ---- failures in a row

counted : (state_behind true (failing true 0) ≡ failing true 1) × (state_behind false (failing true 9) ≡ failing true 0)
    × (state_behind true (failing true 9) ≡ failing false 10) × (state_behind true (failing true 10) ≡ failing true 10)
unfolding state_behind
counted = (refl, refl, refl, refl)

-- ---- what a tick carries out: a ready task before a due root, the least root first

abbrev two_roots : Run → Run → Tasks
two_roots first second = Some (scheduled 0 first) ∷ Some (scheduled 0 second) ∷ []

actions : (action all_free (two_roots [] []) 300006 ≡ DoesNothing)
    × (action all_free (two_roots [] []) 300007 ≡ StartsRun 1)
    × (action all_free (two_roots (waiting 1 ∷ []) []) 300007 ≡ RunsTask 1 1)
    × (action all_free (two_roots [] (waiting 2 ∷ [])) 300007 ≡ RunsTask 2 2)
    × (action (λ id. false) (two_roots (waiting 1 ∷ []) []) 300007 ≡ StartsRun 2)
unfolding action is_due
actions = (refl, refl, refl, refl, refl)
