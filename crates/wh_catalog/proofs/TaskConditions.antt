-- The tests say whether what a commit does to tasks applies.
use Rattle.std.proofs.Common.{◌≡◌, ℕ, suc, ◌<◌, ◌≤◌, Bool, true, false, List, [], ◌∷◌, length, Option, Some, None}
use Rattle.std.proofs.Common.{refl, ap, arith}
use Rattle.std.specs.Bool.{Decides}
use Rattle.std.specs.Prelude.{◌⊎◌, IsTrue, IfSome, IsSomeAnd, nat_eq, nat_le, if◌then◌else◌}
use Rattle.std.specs.List.{AllByRecursion, list_all, list_any}
use Rattle.std.specs.Option.{option_map_or}
use Rattle.std.proofs.lemmas.Bool.Decides.{Decides-and, Decides-or, Decides-eqb, Decides-ltb, Decides-like}
use Rattle.wh_value.specs.Limit.{bound}
use Rattle.wh_value.specs.declared.limit.Limit.TheVariants as limits
use Rattle.wh_state.specs.Task.{Task, TaskState, most_failures}
use Rattle.wh_state.specs.State.{at_id, TableKind, StreamKind, TaskKind, DynamicKind, task_in}
use Rattle.wh_state.specs.Stored.{StoredKind, StoredObject}
use Rattle.wh_state.specs.Objects.{task_at}
use Rattle.wh_state.specs.Edits.{is_among}
use Rattle.wh_state.specs.Commit.{TaskChange, IsLiveTask, TaskApplies, StateApplies, RunApplies, EndApplies, TaskMayGo}
use Rattle.wh_state.specs.Commit.{root_among, count_of_root, child_count, waits, waits_in}
use Rattle.wh_catalog.specs.TaskConditions.{is_task_that, has_root, is_at_rest, is_of_root, has_room, is_scheduled}
use Rattle.wh_catalog.specs.TaskConditions.{joins, task_applies, state_applies, starts, run_applies, end_applies}
use Rattle.wh_catalog.specs.TaskConditions.{task_may_go, may_go}
use Rattle.wh_catalog.proofs.Conditions.{Decides-false, Decides-new_object}
use Rattle.wh_table.proofs.Apart.{Decides-list_all}
use Rattle.wh_table.proofs.Conditions.{Decides-leb}

Decides-true : (b : Bool) → Decides b (IsTrue b)
Decides-true b = (λ is. is, λ is. is)

-- ---- live tasks

module _ (takes : Task → Bool) (P : Task → Type 0) (each : (t : Task) → Decides (takes t) (P t)) where
  by_kind : (live : Bool) (k : StoredKind)
      → Decides (option_map_or takes (if live then task_in k else None) false) (IsTrue live × IsSomeAnd (task_in k) P)
  by_kind false k = (λ is. cc, λ h. let never : false ≡ true = h.0 in cc)
  by_kind true (TableKind t) = (λ is. cc, λ h. absurd h.1)
  by_kind true (StreamKind s) = (λ is. cc, λ h. absurd h.1)
  by_kind true (DynamicKind d t) = (λ is. cc, λ h. absurd h.1)
  by_kind true (TaskKind t) = (λ is. (refl, (each t).0 is), λ h. (each t).1 h.1)

  pub Decides-task : (found : Option StoredObject) → Decides (is_task_that takes found) (IsLiveTask P found)
  Decides-task None = (λ is. cc, λ never. absurd never)
  Decides-task (Some o) = by_kind o.is_live o.kind

module _ (objects : List StoredObject) (root : ℕ) where
  Decides-of_root : (id : ℕ) → Decides (is_of_root objects root id) (IsLiveTask (λ t. t.root ≡ root) (at_id objects id))
  Decides-of_root id = Decides-task (has_root root) (λ t. t.root ≡ root) (λ t. Decides-eqb t.root root) (at_id objects id)

  Decides-all_of_root : (ids : List ℕ) → Decides (list_all (is_of_root objects root) ids)
      (AllByRecursion (λ id. IsLiveTask (λ t. t.root ≡ root) (at_id objects id)) ids)
  Decides-all_of_root ids = Decides-list_all (is_of_root objects root) _ Decides-of_root ids

Decides-at_rest : (t : Task) → Decides (is_at_rest t) (list_any waits t.run ≡ false)
Decides-at_rest t = Decides-false (list_any waits t.run)

-- ---- new tasks

none_listed : (ids : List ℕ) → length ids ≡ 0 → ids ≡ []
none_listed [] none = refl
none_listed (id ∷ ids) none = let never : suc (length ids) ≡ 0 = none in absurd (omega arith)

Decides-empty : (ids : List ℕ) → Decides (nat_eq (length ids) 0) (ids ≡ [])
Decides-empty ids = Decides-like (nat_eq (length ids) 0) (none_listed ids) (ap length) (Decides-eqb (length ids) 0)

Decides-scheduled : (minutes : ℕ) (after : List ℕ)
    → Decides (is_scheduled minutes after) ((minutes ≤ bound limits.MostSchedule) × ((after ≡ []) ⊎ (minutes ≡ 0)))
Decides-scheduled minutes after =
    Decides-and _ _ (Decides-leb minutes (bound limits.MostSchedule))
    (Decides-or _ _ (Decides-empty after) (Decides-eqb minutes 0))

module _ (objects : List StoredObject) where
  Decides-joins : (root : ℕ) (after : List ℕ)
      → Decides (joins objects root after) ((length after ≤ bound limits.Predecessors)
      × (AllByRecursion (λ id. IsLiveTask (λ t. t.root ≡ root) (at_id objects id)) after
      × ((count_of_root objects root < bound limits.GraphTasks)
      × AllByRecursion (λ id. child_count objects id < bound limits.Children) after)))
  Decides-joins root after =
      Decides-and _ _ (Decides-leb (length after) (bound limits.Predecessors))
      (Decides-and _ _ (Decides-all_of_root objects root after)
      (Decides-and _ _ (Decides-ltb (count_of_root objects root) (bound limits.GraphTasks))
      (Decides-list_all (has_room objects) _ (λ id. Decides-ltb (child_count objects id) (bound limits.Children)) after)))

  pub Decides-task_applies : (c : TaskChange) → Decides (task_applies objects c) (TaskApplies objects c)
  Decides-task_applies c =
      Decides-like (task_applies objects c)
      (λ h. record {
        object = h.0;
        minutes = h.1.0.0;
        either = h.1.0.1;
        few_after = h.1.1.0;
        after = h.1.1.1.0;
        few_tasks = h.1.1.1.1.0;
        few_children = h.1.1.1.1.1;
      })
      (λ a. (a.object, ((a.minutes, a.either), (a.few_after, (a.after, (a.few_tasks, a.few_children))))))
      (Decides-and _ _ (Decides-new_object objects c.id c.name)
      (Decides-and _ _ (Decides-scheduled c.minutes c.after)
      (Decides-joins (root_among objects c.id c.after) c.after)))

-- ---- states and runs

pub Decides-state : (found : Option StoredObject) (state : TaskState)
    → Decides (state_applies found state) (StateApplies found state)
Decides-state found state =
    Decides-task (λ t. nat_le state.failures most_failures) (λ t. state.failures ≤ most_failures)
    (λ t. Decides-leb state.failures most_failures) found

pub Decides-run : (objects : List StoredObject) (root : ℕ) (tasks : List ℕ)
    → Decides (run_applies objects root tasks) (RunApplies objects root tasks)
Decides-run objects root tasks =
    Decides-like (run_applies objects root tasks)
    (λ h. record { none = h.0; has_root = h.1.0; members = h.1.1 })
    (λ a. (a.none, (a.has_root, a.members)))
    (Decides-and _ _
    (Decides-task (starts root) (λ t. (t.root ≡ root) × (list_any waits t.run ≡ false))
    (λ t. Decides-and _ _ (Decides-eqb t.root root) (Decides-at_rest t)) (at_id objects root))
    (Decides-and _ _ (Decides-true (is_among root tasks)) (Decides-all_of_root objects root tasks)))

pub Decides-end : (found : Option StoredObject) (task : ℕ) → Decides (end_applies found task) (EndApplies found task)
Decides-end found task =
    Decides-task (λ t. waits_in t.run task) (λ t. IsTrue (waits_in t.run task))
    (λ t. Decides-true (waits_in t.run task)) found

-- ---- drops

pub Decides-may_go : (objects : List StoredObject) (id : ℕ)
    → Decides (may_go objects id) (IfSome (task_at objects id) (TaskMayGo objects id))
Decides-may_go objects id = by (task_at objects id)
  where
    by : (found : Option Task)
        → Decides (option_map_or (task_may_go objects id) found true) (IfSome found (TaskMayGo objects id))
    by None = (λ _. tt, λ _. refl)
    by (Some t) =
        Decides-like (task_may_go objects id t)
        (λ h. record { childless = h.0; at_rest = h.1 })
        (λ a. (a.childless, a.at_rest))
        (Decides-and _ _ (Decides-eqb (child_count objects id) 0)
        (Decides-task is_at_rest (λ r. list_any waits r.run ≡ false) Decides-at_rest (at_id objects t.root)))
