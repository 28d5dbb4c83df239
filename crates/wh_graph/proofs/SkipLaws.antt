-- The tasks that become SKIPPED behind one that ended.
--     AreBefore       predecessors have lower ids
--     skipped_wait    they wait in its run, and have rising ids behind its own
use Rattle.std.proofs.Common.{◌≡◌, ℕ, ◌+◌, ◌<◌, ◌≤◌, Bool, true, false, cond, List, [], ◌∷◌, ◌++◌, refl, arith, ◌⊎◌}
use Rattle.std.proofs.Common.{inl, inr}
use Rattle.std.proofs.Common.{IsTrue}
use Rattle.std.specs.Prelude.{◌||◌}
use Rattle.std.specs.List.{AllByRecursion}
use Rattle.wh_state.specs.Task.{Ending, Succeeded, Failed, Skipped, TaskRun, Run}
use Rattle.wh_state.specs.Edits.{is_among}
use Rattle.wh_state.specs.Commit.{waits_in}
use Rattle.wh_state.proofs.AllLaws.{all_map, all_append, among_all}
use Rattle.wh_state.proofs.TaskFirm.{RunRises, TasksRise}
use Rattle.wh_graph.specs.Graph.{Tasks, after_of, follows_one, is_waiting, if_waiting, reached_in, skipped_behind}
use Rattle.wh_graph.proofs.ReadyLaws.{waits_first, waits_later}

abbrev pub AreBefore : Tasks → Type 0
AreBefore tasks = (id : ℕ) → AllByRecursion (λ p. p < id) (after_of tasks id)

-- a task that follows one of these stands behind the least of them
behind_least : (task id : ℕ) (after reached : List ℕ) → AllByRecursion (λ p. p < id) after
    → AllByRecursion (λ x. task ≤ x) reached → follows_one after reached ≡ true → task < id
behind_least task id [] reached before above follows = absurd cc
behind_least task id (p ∷ ps) reached before above follows =
    by_test (is_among p reached) refl follows (λ rest. behind_least task id ps reached before.1 above rest)
  where
    by_test : (among : Bool) → is_among p reached ≡ among → (among || follows_one ps reached) ≡ true
        → (follows_one ps reached ≡ true → task < id) → task < id
    by_test false is follows rest = rest follows
    by_test true is follows rest =
        let least : task ≤ p = among_all (λ x. task ≤ x) p reached above is in omega (arith, least, before.0)

-- ids that wait in a run, and rise
abbrev pub WaitFrom : ℕ → Run → List ℕ → Type 0
WaitFrom least run ids = AllByRecursion (λ id. IsTrue (waits_in run id)) ids × TasksRise least ids

wait_later : (least : ℕ) (r : TaskRun) (rs : Run) (ids : List ℕ) → WaitFrom least rs ids → WaitFrom least (r ∷ rs) ids
wait_later least r rs ids wait = (
  all_map (λ id. IsTrue (waits_in rs id)) (λ id. IsTrue (waits_in (r ∷ rs) id)) (waits_later r rs) ids wait.0,
  wait.1,
)

-- the least of what is reached is what ended, and what waits from an id on is asked for from there or behind the first
reached_wait : (tasks : Tasks) (task lower least : ℕ) (run : Run) (reached : List ℕ) → AreBefore tasks
    → RunRises least run
    → AllByRecursion (λ x. task ≤ x) reached → (lower ≤ least) ⊎ (lower ≤ task + 1)
    → WaitFrom lower run (reached_in tasks reached run)
reached_wait tasks task lower least [] reached before rises above low = (tt, tt)
reached_wait tasks task lower least (r ∷ rs) reached before rises above low =
    by_follows (follows_one (after_of tasks r.task) reached) refl
    (λ next ids all lows. reached_wait tasks task next (r.task + 1) rs ids before rises.1 all lows)
  where
    lower_still : (lower ≤ least) ⊎ (lower ≤ task + 1) → (lower ≤ r.task + 1) ⊎ (lower ≤ task + 1)
    lower_still (inl from) = inl (omega (arith, from, rises.0))
    lower_still (inr from) = inr from

    lower_here : (lower ≤ least) ⊎ (lower ≤ task + 1) → task < r.task → lower ≤ r.task
    lower_here (inl from) behind = omega (arith, from, rises.0)
    lower_here (inr from) behind = omega (arith, from, behind)

    Rest : Type 0
    Rest = (next : ℕ) (ids : List ℕ) → AllByRecursion (λ x. task ≤ x) ids → (next ≤ r.task + 1) ⊎ (next ≤ task + 1)
        → WaitFrom next rs (reached_in tasks ids rs)

    more : task < r.task → AllByRecursion (λ x. task ≤ x) (reached ++ r.task ∷ [])
    more behind = all_append (λ x. task ≤ x) reached (r.task ∷ []) above (omega (arith, behind), tt)

    by_waiting : (waits : Bool) → is_waiting r ≡ waits → task < r.task → Rest
        → WaitFrom lower (r ∷ rs) (cond waits (r.task ∷ []) [] ++ reached_in tasks (reached ++ r.task ∷ []) rs)
    by_waiting false waits behind rest =
        wait_later lower r rs _ (rest lower (reached ++ r.task ∷ []) (more behind) (lower_still low))
    by_waiting true waits behind rest =
        let others = rest (r.task + 1) (reached ++ r.task ∷ []) (more behind) (inl (omega arith)) in
        let later = wait_later (r.task + 1) r rs _ others in
        ((waits_first r rs r.task refl waits, later.0), (lower_here low behind, later.1))

    by_follows : (follows : Bool) → follows_one (after_of tasks r.task) reached ≡ follows → Rest
        → WaitFrom lower (r ∷ rs)
        (cond follows (if_waiting r ++ reached_in tasks (reached ++ r.task ∷ []) rs) (reached_in tasks reached rs))
    by_follows false follows rest = wait_later lower r rs _ (rest lower reached above (lower_still low))
    by_follows true follows rest =
        by_waiting (is_waiting r) refl
        (behind_least task r.task (after_of tasks r.task) reached (before r.task) above follows) rest

pub skipped_wait : (tasks : Tasks) (run : Run) (task : ℕ) (ending : Ending) → AreBefore tasks → RunRises 0 run
    → WaitFrom (task + 1) run (skipped_behind tasks run task ending)
skipped_wait tasks run task Succeeded before rises = (tt, tt)
skipped_wait tasks run task Failed before rises =
    reached_wait tasks task (task + 1) 0 run (task ∷ []) before rises (omega arith, tt) (inr (omega arith))
skipped_wait tasks run task Skipped before rises =
    reached_wait tasks task (task + 1) 0 run (task ∷ []) before rises (omega arith, tt) (inr (omega arith))
