-- What a tick's action is over.
--     IsTaskWith       a task at an id that meets a condition
--     ready_is         the task that is ready is free, and waits in the run of its root
--     due_is           the root that starts is due
--     waits_first, waits_later     what waits in a run, where its first task does or one behind it
use Rattle.std.proofs.Common.{◌≡◌, ℕ, zero, suc, ◌+◌, Bool, true, false, cond, ◌&&◌, List, [], ◌∷◌, Option, Some, None}
use Rattle.std.proofs.Common.{option_map}
use Rattle.std.proofs.Common.{refl, sym, ap, ◌∙◌, subst, arith, IsTrue}
use Rattle.std.specs.Prelude.{slice_get, unwrap_or, nat_eq, ◌||◌}
use Rattle.std.specs.Option.{option_map_or}
use Rattle.std.proofs.lemmas.Bool.Decides.{nat_tests}
use Rattle.wh_state.specs.Task.{TaskRun, Run, Task}
use Rattle.wh_state.specs.Commit.{waits_in}
use Rattle.wh_graph.specs.Graph.{Tasks, task_of, after_of, is_waiting, are_done}
use Rattle.wh_graph.specs.Root.{is_due}
use Rattle.wh_graph.specs.Action.{is_ready, first_ready, ready_in, or_next, ready_from, ready_task, due_from, due_root}
use Rattle.wh_graph.specs.Action.{RunsTask, StartsRun, starts_or_idles, runs_or, action}

-- ---- tasks among others

record IsAmong (P : Task → Type 0) (rest : Tasks) (id found : ℕ) : Type 0 where
  place : ℕ
  is : found ≡ id + place
  task : Task
  there : slice_get rest place ≡ Some (Some task)
  holds : P task

among_first : (P : Task → Type 0) (t : Task) (rest : Tasks) (id found : ℕ) → id ≡ found → P t
    → IsAmong P (Some t ∷ rest) id found
among_first P t rest id found same holds =
    record { place = zero; is = omega (arith, same); task = t; there = refl; holds = holds }

among_later : (P : Task → Type 0) (first : Option Task) (rest : Tasks) (id found : ℕ) → IsAmong P rest (suc id) found
    → IsAmong P (first ∷ rest) id found
among_later P first rest id found among = record {
  place = suc among.place;
  is = omega (arith, among.is);
  task = among.task;
  there = among.there;
  holds = among.holds;
}

pub record IsTaskWith (P : Task → Type 0) (tasks : Tasks) (id : ℕ) : Type 0 where
  pub task : Task
  pub is : task_of tasks id ≡ Some task
  pub holds : P task

from_one : (P : Task → Type 0) (tasks : Tasks) (id : ℕ) → IsAmong P tasks 1 id → IsTaskWith P tasks id
from_one P tasks id among = record {
  task = among.task;
  is = ap (task_of tasks) next ∙ ap (λ (found : Option (Option Task)). unwrap_or found None) among.there;
  holds = among.holds;
}
  where
    next : id ≡ suc among.place
    next = omega (arith, among.is)

-- ---- the task that is ready

abbrev pub IsReady : (ℕ → Bool) → ℕ → Run → Type 0
IsReady is_free task run = (is_free task ≡ true) × IsTrue (waits_in run task)

all_true : (a b c : Bool) → (a && b && c) ≡ true → (a ≡ true) × (c ≡ true)
all_true true true c is = (refl, is)
all_true true false c is = absurd cc
all_true false b c is = absurd cc

pub waits_first : (r : TaskRun) (rs : Run) (task : ℕ) → r.task ≡ task → is_waiting r ≡ true
    → waits_in (r ∷ rs) task ≡ true
waits_first r rs task same waits = by_test (nat_eq r.task task) refl
  where
    by_test : (b : Bool) → nat_eq r.task task ≡ b → ((b && is_waiting r) || waits_in rs task) ≡ true
    by_test true test = rw waits refl
    by_test false test = grind (arith, nat_tests)

pub waits_later : (r : TaskRun) (rs : Run) (task : ℕ) → waits_in rs task ≡ true → waits_in (r ∷ rs) task ≡ true
waits_later r rs task waits = by_first (nat_eq r.task task && is_waiting r)
  where
    by_first : (first : Bool) → (first || waits_in rs task) ≡ true
    by_first true = refl
    by_first false = waits

first_is : (is_free : ℕ → Bool) (tasks : Tasks) (run : Run) (rest : List TaskRun) (task : ℕ)
    → first_ready is_free tasks run rest ≡ Some task → IsReady is_free task rest
first_is is_free tasks run [] task is = absurd cc
first_is is_free tasks run (r ∷ rs) task is =
    by_ready (is_ready is_free tasks run r) refl (λ later. first_is is_free tasks run rs task later) is
  where
    by_ready : (ready : Bool) → is_ready is_free tasks run r ≡ ready
        → (first_ready is_free tasks run rs ≡ Some task → IsReady is_free task rs)
        → cond ready (Some r.task) (first_ready is_free tasks run rs) ≡ Some task → IsReady is_free task (r ∷ rs)
    by_ready true ready more is =
        let same : r.task ≡ task = cc in
        let both = all_true (is_waiting r) (are_done run (after_of tasks r.task)) (is_free r.task) ready in
        (ap is_free (sym same) ∙ both.1, waits_first r rs task same both.0)
    by_ready false ready more is = let later = more is in (later.0, waits_later r rs task later.1)

from_is : (is_free : ℕ → Bool) (tasks : Tasks) (id : ℕ) (rest : Tasks) (found : ℕ × ℕ)
    → ready_from is_free tasks id rest ≡ Some found → IsAmong (λ r. IsReady is_free found.1 r.run) rest id found.0
from_is is_free tasks id [] found is = absurd cc
from_is is_free tasks id (t ∷ ts) found is =
    by_task t (ready_in is_free tasks t) refl (λ later. from_is is_free tasks (suc id) ts found later) is
  where
    by_task : (t : Option Task) (ready : Option ℕ) → ready_in is_free tasks t ≡ ready
        → (ready_from is_free tasks (suc id) ts ≡ Some found
        → IsAmong (λ r. IsReady is_free found.1 r.run) ts (suc id) found.0)
        → or_next (option_map (λ task. (id, task)) ready) (ready_from is_free tasks (suc id) ts) ≡ Some found
        → IsAmong (λ r. IsReady is_free found.1 r.run) (t ∷ ts) id found.0
    by_task None (Some task) ready more is = absurd cc
    by_task (Some r) (Some task) ready more is =
        let same : (id, task) ≡ found = cc in
        among_first (λ r. IsReady is_free found.1 r.run) r ts id found.0 (ap (λ (p : ℕ × ℕ). p.0) same)
        (subst (λ (n : ℕ). IsReady is_free n r.run) (ap (λ (p : ℕ × ℕ). p.1) same)
        (first_is is_free tasks r.run r.run task ready))
    by_task t None ready more is = among_later (λ r. IsReady is_free found.1 r.run) t ts id found.0 (more is)

pub ready_is : (is_free : ℕ → Bool) (tasks : Tasks) (stamp root task : ℕ)
    → action is_free tasks stamp ≡ RunsTask root task → IsTaskWith (λ r. IsReady is_free task r.run) tasks root
unfolding action
ready_is is_free tasks stamp root task is = by_ready (ready_task is_free tasks) refl is
  where
    idles : (found : Option ℕ) → starts_or_idles found ≡ RunsTask root task → ⊥
    idles None is = absurd cc
    idles (Some due) is = absurd cc

    by_ready : (ready : Option (ℕ × ℕ)) → ready_task is_free tasks ≡ ready
        → runs_or ready (starts_or_idles (due_root tasks stamp)) ≡ RunsTask root task
        → IsTaskWith (λ r. IsReady is_free task r.run) tasks root
    by_ready (Some found) ready is =
        let first : found.0 ≡ root = cc in
        let second : found.1 ≡ task = cc in
        subst (λ (n : ℕ). IsTaskWith (λ r. IsReady is_free task r.run) tasks n) first
        (subst (λ (n : ℕ). IsTaskWith (λ r. IsReady is_free n r.run) tasks found.0) second
        (from_one (λ r. IsReady is_free found.1 r.run) tasks found.0 (from_is is_free tasks 1 tasks found ready)))
    by_ready None ready is = absurd (idles (due_root tasks stamp) is)

-- ---- the root that is due

due_among : (stamp id : ℕ) (rest : Tasks) (found : ℕ) → due_from stamp id rest ≡ Some found
    → IsAmong (λ r. is_due stamp r ≡ true) rest id found
due_among stamp id [] found is = absurd cc
due_among stamp id (t ∷ ts) found is =
    by_due t (option_map_or (is_due stamp) t false) refl (λ later. due_among stamp (suc id) ts found later) is
  where
    by_due : (t : Option Task) (due : Bool) → option_map_or (is_due stamp) t false ≡ due
        → (due_from stamp (suc id) ts ≡ Some found → IsAmong (λ r. is_due stamp r ≡ true) ts (suc id) found)
        → cond due (Some id) (due_from stamp (suc id) ts) ≡ Some found
        → IsAmong (λ r. is_due stamp r ≡ true) (t ∷ ts) id found
    by_due None true due more is = absurd cc
    by_due (Some r) true due more is =
        let same : id ≡ found = cc in
        among_first (λ r. is_due stamp r ≡ true) r ts id found same due
    by_due t false due more is = among_later (λ r. is_due stamp r ≡ true) t ts id found (more is)

pub due_is : (is_free : ℕ → Bool) (tasks : Tasks) (stamp root : ℕ)
    → action is_free tasks stamp ≡ StartsRun root → IsTaskWith (λ r. is_due stamp r ≡ true) tasks root
unfolding action
due_is is_free tasks stamp root is = by_ready (ready_task is_free tasks) is
  where
    by_due : (found : Option ℕ) → due_root tasks stamp ≡ found → starts_or_idles found ≡ StartsRun root
        → IsTaskWith (λ r. is_due stamp r ≡ true) tasks root
    by_due None due is = absurd cc
    by_due (Some found) due is =
        let same : found ≡ root = cc in
        subst (λ (n : ℕ). IsTaskWith (λ r. is_due stamp r ≡ true) tasks n) same
        (from_one (λ r. is_due stamp r ≡ true) tasks found (due_among stamp 1 tasks found due))

    by_ready : (ready : Option (ℕ × ℕ)) → runs_or ready (starts_or_idles (due_root tasks stamp)) ≡ StartsRun root
        → IsTaskWith (λ r. is_due stamp r ≡ true) tasks root
    by_ready (Some found) is = absurd cc
    by_ready None is = by_due (due_root tasks stamp) refl is
