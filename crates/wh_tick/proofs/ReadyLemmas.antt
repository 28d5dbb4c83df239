-- What is decided can be carried out.
--     changes_read     the changes of a commit are read, where there is one
--     behind_read      so they are with those of a task's end behind them
use Rattle.std.proofs.Common.{◌≡◌, ℕ, Bool, true, false, cond, List, [], ◌∷◌, ◌++◌, map, Option, Some, None}
use Rattle.std.proofs.Common.{sym, subst}
use Rattle.std.specs.Prelude.{nat_eq}
use Rattle.std.specs.Option.{option_map_or}
use Rattle.wh_state.specs.State.{Object}
use Rattle.wh_state.specs.Commit.{Change, Commit, FinishesTask, SetsTask}
use Rattle.wh_state.specs.Spelling.{IsUnderstood}
use Rattle.wh_state.specs.Task.{Ending, Skipped, Run, TaskState, Task}
use Rattle.wh_state.specs.Objects.{live_tasks}
use Rattle.wh_state.proofs.AllLaws.{all_append}
use Rattle.wh_graph.specs.Graph.{is_under_way, skipped_behind, run_behind, has_failed}
use Rattle.wh_graph.specs.Root.{state_behind}
use Rattle.wh_txn.specs.Recording.{IsRead}
use Rattle.wh_tick.specs.Changes.{AreRead}
use Rattle.wh_tick.specs.Ends.{count_written, end_written}

pub changes_read : (found : Option Commit) → IsRead found → AreRead (option_map_or (λ c. c.changes) found [])
changes_read None are = tt
changes_read (Some c) are = are

-- ---- the end of a task

skips_read : (root : ℕ) (ids : List ℕ) → AreRead (map (λ id. FinishesTask root id Skipped) ids)
skips_read root [] = tt
skips_read root (id ∷ ids) = (tt, skips_read root ids)

count_read : (root : ℕ) (s : TaskState) (behind : Run) → AreRead (count_written root s behind)
count_read root s behind = by_way (is_under_way behind)
  where
    new : TaskState
    new = state_behind (has_failed behind) s

    by_count : (same : Bool) → AreRead (cond same [] (SetsTask root new ∷ []))
    by_count true = tt
    by_count false = (tt, tt)

    by_way : (way : Bool)
        → AreRead (cond way [] (cond (nat_eq s.failures new.failures) [] (SetsTask root new ∷ [])))
    by_way true = tt
    by_way false = by_count (nat_eq s.failures new.failures)

end_read : (objects : List Object) (root : ℕ) (r : Task) (task : ℕ) (ending : Ending)
    → AreRead (end_written objects root r task ending)
end_read objects root r task ending =
    let skipped = skipped_behind (live_tasks objects) r.run task ending in
    let behind = run_behind (live_tasks objects) r.run task ending in (
      tt,
      all_append IsUnderstood (map (λ id. FinishesTask root id Skipped) skipped) (count_written root r.state behind)
          (skips_read root skipped) (count_read root r.state behind),
    )

pub behind_read : (objects : List Object) (root : ℕ) (r : Task) (task : ℕ) (ending : Ending)
    (before all : List Change) → all ≡ before ++ end_written objects root r task ending → AreRead before → AreRead all
behind_read objects root r task ending before all is are =
    subst AreRead (sym is) (all_append IsUnderstood before (end_written objects root r task ending) are
    (end_read objects root r task ending))
