-- The end of a task: the run behind it, and what is written for its acts.
--     run_behind_is      the run, task by task
--     end_is_written     the changes of an end, whatever stands before it in its commit
--     end_behind         and behind those of a statement
--     told_both          what is told of an end, by its parts
--     changes_of_end, aftermath_is     what is written and told of an end, by what it leaves
use Rattle.std.proofs.Common.{◌≡◌, ℕ, Bool, true, false, cond, ◌||◌, List, [], ◌∷◌, ◌++◌, map, Option, Some, refl, sym}
use Rattle.std.proofs.Common.{ap, ◌∙◌}
use Rattle.std.specs.Prelude.{nat_eq}
use Rattle.wh_state.specs.Task.{Ending, Skipped, TaskRun, Run, TaskState, Task, ended_as, ended_in}
use Rattle.wh_state.specs.State.{Object}
use Rattle.wh_state.specs.Objects.{name_at, live_tasks}
use Rattle.wh_state.specs.Edits.{is_among}
use Rattle.wh_state.specs.Act.{Act, EndsTask, PutsTask}
use Rattle.wh_state.specs.Stored.{StoredObject}
use Rattle.wh_state.specs.Commit.{Change, FinishesTask, SetsTask, changed, all_changed}
use Rattle.wh_state.specs.Written.{written}
use Rattle.wh_graph.specs.Graph.{Tasks, is_under_way, has_failed, skipped_behind, all_skipped, run_behind}
use Rattle.wh_graph.specs.Root.{state_behind}
use Rattle.wh_state.proofs.EndLaws.{written_append}
use Rattle.wh_reply.specs.Reply.{GraphEnd, Aftermath}
use Rattle.wh_machine.specs.Outcome.{Machine}
use Rattle.wh_machine.specs.Ticks.{graph_acts, end_acts, graph_end, aftermath_of}
use Rattle.wh_tick.specs.Ends.{skipped_as, behind_as, run_as, count_written, end_changes, end_written}

-- ---- the run

-- one task more that is skipped
one_more : (id : ℕ) (ids : List ℕ) (r : TaskRun) → skipped_as ids (ended_as id Skipped r) ≡ skipped_as (id ∷ ids) r
one_more id ids r = by_first (nat_eq r.task id)
  where
    by_again : (among : Bool)
        → cond among (record r { ending = Some Skipped }) (record r { ending = Some Skipped })
        ≡ record r { ending = Some Skipped }
    by_again true = refl
    by_again false = refl

    by_first : (same : Bool) → skipped_as ids (cond same (record r { ending = Some Skipped }) r)
        ≡ cond (same || is_among r.task ids) (record r { ending = Some Skipped }) r
    by_first true = by_again (is_among r.task ids)
    by_first false = refl

more_in : (id : ℕ) (ids : List ℕ) (run : Run)
    → map (skipped_as ids) (ended_in id Skipped run) ≡ map (skipped_as (id ∷ ids)) run
more_in id ids [] = refl
more_in id ids (r ∷ rs) = λ i. one_more id ids r i ∷ more_in id ids rs i

none_skipped : (run : Run) → run ≡ map (skipped_as []) run
none_skipped [] = refl
none_skipped (r ∷ rs) = ap (λ (others : Run). r ∷ others) (none_skipped rs)

skipped_all : (ids : List ℕ) (run : Run) → all_skipped ids run ≡ map (skipped_as ids) run
skipped_all [] run = none_skipped run
skipped_all (id ∷ ids) run = skipped_all ids (ended_in id Skipped run) ∙ more_in id ids run

both : (skipped : List ℕ) (task : ℕ) (ending : Ending) (run : Run)
    → map (skipped_as skipped) (ended_in task ending run) ≡ run_as skipped task ending run
both skipped task ending [] = refl
both skipped task ending (r ∷ rs) = ap (λ (others : Run). behind_as skipped task ending r ∷ others)
    (both skipped task ending rs)

pub run_behind_is : (tasks : Tasks) (run : Run) (task : ℕ) (ending : Ending)
    → run_as (skipped_behind tasks run task ending) task ending run ≡ run_behind tasks run task ending
unfolding run_behind
run_behind_is tasks run task ending =
    let skipped : List ℕ = skipped_behind tasks run task ending in
    sym (skipped_all skipped (ended_in task ending run) ∙ both skipped task ending run)

-- ---- changes

count_is_written : (stamp root : ℕ) (s : TaskState) (behind : Run) (objects : List StoredObject)
    → written stamp objects (graph_acts root s behind) ≡ count_written root s behind
count_is_written stamp root s behind objects = by_way (is_under_way behind)
  where
    new : TaskState
    new = state_behind (has_failed behind) s

    by_count : (same : Bool)
        → written stamp objects (cond same [] (PutsTask root new ∷ [])) ≡ cond same [] (SetsTask root new ∷ [])
    by_count true = refl
    by_count false = refl

    by_way : (way : Bool)
        → written stamp objects (cond way [] (cond (nat_eq s.failures new.failures) [] (PutsTask root new ∷ [])))
        ≡ cond way [] (cond (nat_eq s.failures new.failures) [] (SetsTask root new ∷ []))
    by_way true = refl
    by_way false = by_count (nat_eq s.failures new.failures)

skips_are_written : (stamp root : ℕ) (more : List Act) (cs : List Change)
    → ((later : List StoredObject) → written stamp later more ≡ cs) → (objects : List StoredObject) (ids : List ℕ)
    → written stamp objects (map (λ id. EndsTask root id Skipped) ids ++ more)
    ≡ map (λ id. FinishesTask root id Skipped) ids ++ cs
skips_are_written stamp root more cs is objects [] = is objects
skips_are_written stamp root more cs is objects (id ∷ ids) =
    ap (λ (rest : List Change). FinishesTask root id Skipped ∷ rest)
    (skips_are_written stamp root more cs is (changed stamp objects (FinishesTask root id Skipped)) ids)

pub end_is_written : (stamp : ℕ) (stored : List StoredObject) (objects : List Object) (root : ℕ) (r : Task) (task : ℕ)
    (ending : Ending)
    → written stamp stored (end_acts objects root r task ending) ≡ end_written objects root r task ending
unfolding end_acts
end_is_written stamp stored objects root r task ending =
    let behind : Run = run_behind (live_tasks objects) r.run task ending in
    ap (λ (rest : List Change). FinishesTask root task ending ∷ rest)
    (skips_are_written stamp root (graph_acts root r.state behind) (count_written root r.state behind)
    (count_is_written stamp root r.state behind) (changed stamp stored (FinishesTask root task ending))
    (skipped_behind (live_tasks objects) r.run task ending))

pub end_behind : (stamp : ℕ) (stored : List StoredObject) (objects : List Object) (root : ℕ) (r : Task) (task : ℕ)
    (ending : Ending) (acts : List Act) (before : List Change) → before ≡ written stamp stored acts
    → before ++ end_written objects root r task ending
    ≡ written stamp stored (acts ++ end_acts objects root r task ending)
end_behind stamp stored objects root r task ending acts before is =
    let later : List StoredObject = all_changed stamp stored (written stamp stored acts) in
    (λ i. is i ++ sym (end_is_written stamp later objects root r task ending) i)
    ∙ sym (written_append stamp stored acts (end_acts objects root r task ending))

-- ---- by what it leaves

pub told_both : (skipped names : List (List ℕ)) (graph end : Option GraphEnd) → skipped ≡ names → graph ≡ end
    → ◌≡◌ {A = Aftermath} (record { skipped = skipped; graph = graph }) (record { skipped = names; graph = end })
told_both skipped names graph end at_names at_end = λ i. record { skipped = at_names i; graph = at_end i }

module _ (tasks : Tasks) (root : ℕ) (r : Task) (task : ℕ) (ending : Ending) (skipped : List ℕ) (behind : Run)
    (left : skipped ≡ skipped_behind tasks r.run task ending)
    (leaves : behind ≡ run_behind tasks r.run task ending) where
  pub changes_of_end : (objects : List Object) → tasks ≡ live_tasks objects
      → end_changes root r.state task ending skipped behind ≡ end_written objects root r task ending
  changes_of_end objects all =
      (λ i. end_changes root r.state task ending (left i) (leaves i))
      ∙ (λ i. end_changes root r.state task ending (skipped_behind (all i) r.run task ending)
      (run_behind (all i) r.run task ending))

  pub aftermath_is : (m : Machine) → tasks ≡ live_tasks m.state.objects
      → ◌≡◌ {A = Aftermath} (record {
        skipped = map (name_at m.state.objects) skipped;
        graph = graph_end m root r.state behind;
      }) (aftermath_of m root r task ending)
  unfolding aftermath_of
  aftermath_is m all =
      let told : List ℕ → Run → Aftermath = λ ids run. record {
        skipped = map (name_at m.state.objects) ids;
        graph = graph_end m root r.state run;
      } in
      (λ i. told (left i) (leaves i))
      ∙ (λ i. told (skipped_behind (all i) r.run task ending) (run_behind (all i) r.run task ending))
