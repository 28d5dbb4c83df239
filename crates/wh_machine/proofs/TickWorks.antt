-- Ticks apply.
--     task_there       a live task that a tick finds
--     works_due        the run of a root that is due begins
--     works_ends       a task ends behind the acts of its statement
--     works_run        a task that is ready runs
--     works_tick       each tick
use Rattle.std.proofs.Common.{◌≡◌, ℕ, ◌+◌, ◌<◌, ◌≤◌, Bool, true, false, cond, not, List, [], ◌∷◌, ◌++◌, map, option_map}
use Rattle.std.proofs.Common.{Option, Some, None, refl, sym, ap, subst, ◌∙◌, ◌⊎◌, inl, inr, arith, IsTrue}
use Rattle.std.proofs.Common.{option_and_then}
use Rattle.std.specs.Prelude.{◌&&◌, nat_eq, nat_lt, unwrap_or}
use Rattle.std.specs.List.{AllByRecursion}
use Rattle.std.specs.Option.{option_map_or}
use Rattle.std.proofs.lemmas.Bool.Decides.{nat_tests}
use Rattle.wh_ast.specs.declared.dml.Dml.{Dml}
use Rattle.wh_reply.specs.Reply.{Refusal, Reply, RootRunning, Started, Idle}
use Rattle.wh_state.specs.Task.{Ending, Succeeded, Failed, Skipped, Run, TaskState, Task, most_failures}
use Rattle.wh_state.specs.State.{Object, task_in, at_id}
use Rattle.wh_state.specs.Act.{Act, MakesTable, DropsObject, EditsRows, MakesStream, MovesOffset, MakesTask, PutsTask}
use Rattle.wh_state.specs.Act.{BeginsRun, EndsTask, MakesDynamic, PutsDynamic, RefreshesRows}
use Rattle.wh_state.specs.Objects.{name_at, as_task, task_at}
use Rattle.wh_state.specs.Stored.{StoredObject, Stored, object_meant}
use Rattle.wh_state.specs.Commit.{Change, SetsTask, FinishesTask, waits_in, changed, all_changed}
use Rattle.wh_state.specs.Commit as commits
use Rattle.wh_state.specs.Written.{written}
use Rattle.wh_state.proofs.AllLaws.{all_append}
use Rattle.wh_state.proofs.IdLaws.{map_at}
use Rattle.wh_state.proofs.MeaningLaws.{at_id_meant, task_at_meant}
use Rattle.wh_state.proofs.SpelledLaws.{HasTokensOf}
use Rattle.wh_state.proofs.TaskFirm.{IsFirmTask, IsRooted, TaskHolds}
use Rattle.wh_state.proofs.FirmLaws.{IsFirm}
use Rattle.wh_state.proofs.WrittenLaws.{AllGo, ChangeSpares, acts_go, go_none}
use Rattle.wh_state.proofs.EndLaws.{AreOfRows, acts_of_rows, rows_spare, live_behind, written_append, go_behind}
use Rattle.wh_state.proofs.EndLaws.{AllWait}
use Rattle.wh_state.proofs.EndLaws.{live_map, GoesBehind, ends_go}
use Rattle.wh_graph.specs.Graph.{task_of, is_under_way, skipped_behind, run_behind, has_failed}
use Rattle.wh_graph.specs.Root.{is_due, is_tenth, state_behind}
use Rattle.wh_graph.specs.Action.{Action, RunsTask, StartsRun, DoesNothing}
use Rattle.wh_graph.proofs.ReadyLaws.{IsReady, IsTaskWith, ready_is, due_is}
use Rattle.wh_graph.proofs.SkipLaws.{AreBefore, WaitFrom, skipped_wait}
use Rattle.wh_machine.specs.Tests.{refused_if}
use Rattle.wh_machine.specs.Changes.{Changed, Fails, Gives, reply_to}
use Rattle.wh_machine.specs.Transaction.{Transaction, begun, start_of, staged_in_state, acts_of, commit_refusal}
use Rattle.wh_machine.specs.Outcome.{Machine, Does, unless}
use Rattle.wh_machine.specs.Statements.{bound_changed, changes_in}
use Rattle.wh_machine.specs.Tasks.{live_task, live_tasks, root_running}
use Rattle.wh_machine.specs.Ticks as ticks
use Rattle.wh_machine.specs.Ticks.{is_free, body_bound, Verdict, Holds, HoldsNot, verdict, count_acts, graph_acts}
use Rattle.wh_machine.specs.Ticks.{end_acts}
use Rattle.wh_machine.specs.Ticks.{aftermath_of, ends_as, fails_by, carried_in, runs_by, runs_task, run_task}
use Rattle.wh_machine.specs.Ticks.{starts_run}
use Rattle.wh_machine.specs.Ticks.{does_action, action_at, ticked}
use Rattle.wh_machine.proofs.TaskActs.{IsOfTasks, end_is}
use Rattle.wh_machine.proofs.WorksLaws.{IsReached, objects_meant, Works, works_does, works_made, CommitStands}
use Rattle.wh_machine.proofs.WorksLaws.{transaction_commits}
use Rattle.wh_machine.proofs.ValueTypes.{both_true}
use Rattle.wh_machine.proofs.StageLaws.{ChangedFits, alone_stands}
use Rattle.wh_moment.specs.Upstream.{dynamics_of}
use Rattle.wh_moment.specs.Moment.{due_table}
use Rattle.wh_machine.proofs.DynamicWorks.{works_refreshes}
use Rattle.wh_machine.proofs.ChangeLaws.{change_fits}
use Rattle.wh_machine.proofs.TaskWorks.{IsTaskAt, live_task_at, firm_at, task_found, live_meant}
use Rattle.wh_machine.proofs.StartWorks.{works_scheduled}

-- ---- live tasks

task_there : (objects : List StoredObject) (id : ℕ) (t : Task)
    → task_of (live_tasks (map object_meant objects)) id ≡ Some t → (is : IsTaskAt objects id) × (is.task ≡ t)
task_there objects id t there = by_found (at_id objects id) refl (sym at_meant ∙ there)
  where
    at_meant : task_of (live_tasks (map object_meant objects)) id
        ≡ unwrap_or (option_map live_task (option_map object_meant (at_id objects id))) None
    at_meant = ap (λ (found : Option (Option Task)). unwrap_or found None)
        (map_at live_task (map object_meant objects) id ∙ ap (option_map live_task) (at_id_meant objects id))

    by_live : (o : StoredObject) (live : Bool) (found : Option Task) → at_id objects id ≡ Some o → o.is_live ≡ live
        → task_in o.kind ≡ found → cond live found None ≡ Some t → (is : IsTaskAt objects id) × (is.task ≡ t)
    by_live o false found at live is there = absurd cc
    by_live o true None at live is there = absurd cc
    by_live o true (Some x) at live is there =
        let same : x ≡ t = cc in
        (record { object = o; there = at; live = live; task = x; is_task = is }, same)

    by_found : (found : Option StoredObject) → at_id objects id ≡ found
        → unwrap_or (option_map live_task (option_map object_meant found)) None ≡ Some t
        → (is : IsTaskAt objects id) × (is.task ≡ t)
    by_found None at there = absurd cc
    by_found (Some o) at there =
        by_live o o.is_live (task_in o.kind) at refl refl (sym (live_meant o) ∙ there)

task_with : (P : Task → Type 0) (s : Stored) (m : Machine) (id : ℕ) → IsReached s m
    → IsTaskWith P (live_tasks m.state.objects) id → (is : IsTaskAt s.objects id) × P is.task
task_with P s m id reached found =
    let there = task_there s.objects id found.task
    (subst (λ (objects : List Object). task_of (live_tasks objects) id ≡ Some found.task) (objects_meant s m reached)
    found.is) in
    (there.0, subst P (sym there.1) found.holds)

are_before : (s : Stored) (m : Machine) → IsReached s m → AreBefore (live_tasks m.state.objects)
are_before s m reached =
    subst (λ (objects : List Object). AreBefore (live_tasks objects)) (sym (objects_meant s m reached))
    (λ id. by_task id (task_of (live_tasks (map object_meant s.objects)) id) refl)
  where
    by_task : (id : ℕ) (found : Option Task) → task_of (live_tasks (map object_meant s.objects)) id ≡ found
        → AllByRecursion (λ p. p < id) (option_map_or (λ t. t.after) found [])
    by_task id None is = tt
    by_task id (Some t) is =
        let there = task_there s.objects id t is in
        subst (λ (t : Task). AllByRecursion (λ p. p < id) t.after) there.1
        (firm_at s.objects id reached.firm there.0).0.before

-- ---- a root that is due

record IsAtTime (r : Task) : Type 0 where
  some : 0 < r.minutes
  rest : is_under_way r.run ≡ false

at_time : (stamp : ℕ) (r : Task) → is_due stamp r ≡ true → IsAtTime r
unfolding is_due
at_time stamp r due =
    let behind = both_true (r.state.is_resumed && nat_lt 0 r.minutes && not (is_under_way r.run)) _ due in
    let rest = both_true (r.state.is_resumed && nat_lt 0 r.minutes) (not (is_under_way r.run)) behind.0 in
    let some = (both_true r.state.is_resumed (nat_lt 0 r.minutes) rest.0).1 in
    record { some = above r.minutes some; rest = not_true (is_under_way r.run) rest.1 }
  where
    above : (minutes : ℕ) → nat_lt 0 minutes ≡ true → 0 < minutes
    above minutes test = grind (arith, nat_tests)

    not_true : (b : Bool) → not b ≡ true → b ≡ false
    not_true true is = absurd cc
    not_true false is = refl

works_due : (s : Stored) (m : Machine) (root : ℕ) → IsReached s m → action_at m ≡ StartsRun root
    → Works s m (starts_run m root (task_at m.state.objects root))
works_due s m root reached is =
    let found = task_with (λ r. is_due m.state.last r ≡ true) s m root reached
    (due_is (is_free m) (live_tasks m.state.objects) m.state.last root is) in
    due_starts found.0 (at_time m.state.last found.0.task found.1)
  where
    own_root : (r : IsTaskAt s.objects root) → IsAtTime r.task → r.task.root ≡ root
    own_root r time = by_either firm.0.either
      where
        firm : IsFirmTask root r.task × (IsTrue r.object.is_live → IsRooted s.objects root r.task)
        firm = firm_at s.objects root reached.firm r

        by_either : (r.task.after ≡ []) ⊎ (r.task.minutes ≡ 0) → r.task.root ≡ root
        by_either (inl none) = (firm.1 r.live).own none
        by_either (inr none) = absurd (omega (arith, none, time.some))

    due_starts : (r : IsTaskAt s.objects root) → IsAtTime r.task
        → Works s m (starts_run m root (task_at m.state.objects root))
    due_starts r time =
        let at : task_at m.state.objects root ≡ Some r.task = task_found s m root reached r in
        let resting : root_running m.state.objects root ≡ None =
        ap (λ (t : Option Task). refused_if (is_under_way (option_map_or (λ t. t.run) t []))
        (RootRunning (name_at m.state.objects root))) at
        ∙ ap (λ (b : Bool). refused_if b (RootRunning (name_at m.state.objects root))) time.rest in
        subst (λ (found : Option Task). Works s m (starts_run m root found)) (sym at)
        (works_scheduled s m (Started (name_at m.state.objects root)) root reached r (own_root r time) resting)

-- ---- the end of a task

tasks_spare : (stamp : ℕ) (objects : List StoredObject) (acts : List Act) → AllByRecursion IsOfTasks acts → (id : ℕ)
    → AllByRecursion (ChangeSpares id) (written stamp objects acts)
tasks_spare stamp objects [] are id = tt
tasks_spare stamp objects (PutsTask other state ∷ acts) are id =
    (tt, tasks_spare stamp (changed stamp objects (SetsTask other state)) acts are.1 id)
tasks_spare stamp objects (BeginsRun root tasks ∷ acts) are id =
    (tt, tasks_spare stamp (changed stamp objects (commits.StartsRun root tasks)) acts are.1 id)
tasks_spare stamp objects (EndsTask root task ending ∷ acts) are id =
    (tt, tasks_spare stamp (changed stamp objects (FinishesTask root task ending)) acts are.1 id)
tasks_spare stamp objects (MakesTable name columns retention ∷ acts) are id = absurd are.0
tasks_spare stamp objects (DropsObject other ∷ acts) are id = absurd are.0
tasks_spare stamp objects (EditsRows other e ∷ acts) are id = absurd are.0
tasks_spare stamp objects (MakesStream name source is_append_only ∷ acts) are id = absurd are.0
tasks_spare stamp objects (MovesOffset other offset ∷ acts) are id = absurd are.0
tasks_spare stamp objects (MakesTask name minutes after runs ∷ acts) are id = absurd are.0
tasks_spare stamp objects (MakesDynamic name lag is_incremental query columns ∷ acts) are id = absurd are.0
tasks_spare stamp objects (PutsDynamic other state ∷ acts) are id = absurd are.0
tasks_spare stamp objects (RefreshesRows other moment e c ∷ acts) are id = absurd are.0

still_few : (failed : Bool) (state : TaskState) → state.failures ≤ most_failures
    → (state_behind failed state).failures ≤ most_failures
unfolding state_behind
still_few false state few = omega arith
still_few true state few = by_test (nat_lt state.failures most_failures) refl
  where
    more : nat_lt state.failures most_failures ≡ true → state.failures + 1 ≤ most_failures
    more test = grind (arith, nat_tests)

    by_test : (less : Bool) → nat_lt state.failures most_failures ≡ less
        → (cond less (record state {
          failures = state.failures + 1;
          is_resumed = state.is_resumed && not (is_tenth true state);
        }) state).failures ≤ most_failures
    by_test true test = more test
    by_test false test = few

graph_goes : (stamp root : ℕ) (state : TaskState) (behind : Run) → state.failures ≤ most_failures
    → GoesBehind stamp root (graph_acts root state behind)
graph_goes stamp root state behind few later live = by_way (is_under_way behind)
  where
    new : TaskState
    new = state_behind (has_failed behind) state

    by_same : (same : Bool) → AllGo stamp later (written stamp later (cond same [] (PutsTask root new ∷ [])))
    by_same true = go_none stamp later
    by_same false = record {
      applies = (
        live_map (λ t. Unit {0}) (λ t. new.failures ≤ most_failures)
            (λ t is. still_few (has_failed behind) state few) (at_id later root) live,
        tt,
      );
      rises = (tt, tt);
      follows = (refl, refl);
    }

    by_way : (more : Bool) → AllGo stamp later (written stamp later (cond more [] (count_acts root state new)))
    by_way true = go_none stamp later
    by_way false = by_same (nat_eq state.failures new.failures)

-- behind acts of its statement that go
works_ends : (s : Stored) (m : Machine) (root task : ℕ) (ending : Ending) (reply : Reply) (acts : List Act)
    → IsReached s m
    → (r : IsTaskAt s.objects root) → IsTrue (waits_in r.task.run task)
    → AllGo m.state.last s.objects (written m.state.last s.objects acts)
    → AreOfRows (written m.state.last s.objects acts) → Works s m (ends_as m root r.task task ending reply acts)
unfolding end_acts
works_ends s m root task ending reply acts reached r waits go rows =
    works_made s m reply (acts ++ end_acts m.state.objects root r.task task ending) reached
    (λ id. subst (AllByRecursion (ChangeSpares id))
    (sym (written_append stamp s.objects acts (end_acts m.state.objects root r.task task ending)))
    (all_append (ChangeSpares id) first (written stamp left (end_acts m.state.objects root r.task task ending))
    (rows_spare id first rows)
    (tasks_spare stamp left (end_acts m.state.objects root r.task task ending)
    (end_is m.state.objects root r.task task ending) id)))
    (go_behind stamp s.objects acts (end_acts m.state.objects root r.task task ending) go
    (ends_go stamp left root task ending Skipped skipped
    (graph_acts root r.task.state (run_behind (live_tasks m.state.objects) r.task.run task ending)) wait.1
    (live_behind (AllWait (task ∷ skipped)) stamp s.objects root first rows
    (live_task_at (AllWait (task ∷ skipped)) s.objects root r (waits, wait.0)))
    (graph_goes stamp root r.task.state (run_behind (live_tasks m.state.objects) r.task.run task ending) firm.few)))
  where
    stamp : ℕ
    stamp = m.state.last

    first : List Change
    first = written stamp s.objects acts

    left : List StoredObject
    left = all_changed stamp s.objects first

    firm : IsFirmTask root r.task
    firm = (firm_at s.objects root reached.firm r).0

    skipped : List ℕ
    skipped = skipped_behind (live_tasks m.state.objects) r.task.run task ending

    wait : WaitFrom (task + 1) r.task.run skipped
    wait = skipped_wait (live_tasks m.state.objects) r.task.run task ending (are_before s m reached) firm.rises

-- ---- a task's run

works_fails : (s : Stored) (m : Machine) (root task : ℕ) (why : Refusal) → IsReached s m → (r : IsTaskAt s.objects root)
    → IsTrue (waits_in r.task.run task) → Works s m (fails_by m root r.task task why)
works_fails s m root task why reached r waits =
    works_ends s m root task Failed _ [] reached r waits (go_none m.state.last s.objects) tt

-- its statement as a transaction of its own, by what it comes to
works_carried : (s : Stored) (m : Machine) (root task : ℕ) (c : Changed) → IsReached s m → (r : IsTaskAt s.objects root)
    → IsTrue (waits_in r.task.run task) → ChangedFits s.objects c
    → Works s m (carried_in m root r.task task (changes_in m 0 None c))
works_carried s m root task (Fails why) reached r waits fits = works_fails s m root task why reached r waits
works_carried s m root task (Gives id streams change e) reached r waits fits =
    by_refusal (commit_refusal m.state.objects t) refl
  where
    t : Transaction
    t = staged_in_state m.state (begun m.state.last) id streams e

    by_acts : (reply : Reply) (found : Option (List Act)) → CommitStands s m.state.last (start_of t) found
        → Works s m (ends_as m root r.task task Succeeded reply (unwrap_or found []))
    by_acts reply None stands =
        works_ends s m root task Succeeded reply [] reached r waits (go_none m.state.last s.objects) tt
    by_acts reply (Some acts) stands =
        works_ends s m root task Succeeded reply acts reached r waits
        (acts_go m.state.last (start_of t) 0 s.objects acts stands.0 stands.1 reached.firm)
        (acts_of_rows m.state.last (start_of t) s.objects acts stands.1 s.objects)

    by_refusal : (found : Option Refusal) → commit_refusal m.state.objects t ≡ found → Works s m
        (carried_in m root r.task task (unless found (Does (reply_to change e) m.sessions (acts_of m.state.objects t))))
    by_refusal (Some why) none = works_fails s m root task why reached r waits
    by_refusal None none =
        by_acts _ (acts_of m.state.objects t)
        (transaction_commits s m t reached none (alone_stands s m id streams change e fits))

works_runs : (s : Stored) (m : Machine) (root task : ℕ) (body : Dml) (v : Verdict) → IsReached s m
    → (r : IsTaskAt s.objects root) → IsTrue (waits_in r.task.run task) → HasTokensOf body
    → Works s m (runs_by m root r.task task body v)
works_runs s m root task body (ticks.Fails why) reached r waits tokens = works_fails s m root task why reached r waits
works_runs s m root task body HoldsNot reached r waits tokens =
    works_ends s m root task Skipped _ [] reached r waits (go_none m.state.last s.objects) tt
works_runs s m root task body Holds reached r waits tokens =
    works_carried s m root task (bound_changed m 0 (body_bound m body)) reached r waits
    (change_fits s m 0 reached body tokens.1)

-- the body of a task is a statement that was written
body_written : (objects : List StoredObject) (id : ℕ) (t : Task) → IsFirm objects → task_at objects id ≡ Some t
    → HasTokensOf t.runs.body
body_written objects id t firm there = by_found (at_id objects id) refl there
  where
    by_found : (found : Option StoredObject) → at_id objects id ≡ found → option_and_then as_task found ≡ Some t
        → HasTokensOf t.runs.body
    by_found None at there = absurd cc
    by_found (Some o) at there =
        (subst (λ (found : Option Task). TaskHolds objects id o.is_live found) there (firm.tasks id o at)).0.body

works_run : (s : Stored) (m : Machine) (root task : ℕ) → IsReached s m → action_at m ≡ RunsTask root task
    → Works s m (run_task m root task)
unfolding run_task
works_run s m root task reached is =
    let found = task_with (λ r. IsReady (is_free m) task r.run) s m root reached
    (ready_is (is_free m) (live_tasks m.state.objects) m.state.last root task is) in
    subst (λ (t : Option Task). Works s m (runs_task m root task t (task_at m.state.objects task)))
    (sym (task_found s m root reached found.0))
    (by_task found.0 found.1.1 (task_at m.state.objects task) refl)
  where
    by_task : (r : IsTaskAt s.objects root) → IsTrue (waits_in r.task.run task) → (t : Option Task)
        → task_at m.state.objects task ≡ t → Works s m (runs_task m root task (Some r.task) t)
    by_task r waits None at = works_does s m Idle m.sessions reached.stand
    by_task r waits (Some t) at =
        let there : task_at s.objects task ≡ Some t = sym (task_at_meant s.objects task)
        ∙ sym (ap (λ (objects : List Object). task_at objects task) (objects_meant s m reached)) ∙ at in
        works_runs s m root task t.runs.body (verdict m t.runs.when) reached r waits
        (body_written s.objects task t reached.firm there)

-- ---- ticks

works_action : (s : Stored) (m : Machine) (a : Action) → IsReached s m → action_at m ≡ a → Works s m (does_action m a)
works_action s m (RunsTask root task) reached is = works_run s m root task reached is
works_action s m (StartsRun root) reached is = works_due s m root reached is
works_action s m DoesNothing reached is =
    works_refreshes s m reached (due_table (dynamics_of m.state.objects) m.state.last) refl

pub works_tick : (s : Stored) (m : Machine) → IsReached s m → Works s m (ticked m)
unfolding ticked
works_tick s m reached = works_action s m (action_at m) reached refl
