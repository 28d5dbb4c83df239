-- A catalog's state, and what its commits say.
--     state_is, rest_of                     the state, but for its last stamp and at rest
--     count_is, live_is                     how many objects there are
--     object_there                          the object at an id
--     table_there, table_missing            the table at an id
--     task_there, count_meant, tasks_are    the task at an id, and the live tasks
--     dynamic_there, lives_there            the dynamic table at an id, and whether an object lives
--     dynamics_are                          what a schedule looks at
--     means_by                              a commit is carried out
use Rattle.std.proofs.Common.{◌≡◌, ℕ, Bool, true, false, cond, List, [], ◌∷◌, map, length, Option, Some, None}
use Rattle.std.proofs.Common.{option_map, ◌&&◌, refl, sym, ap, ◌∙◌}
use Rattle.std.specs.Prelude.{count_by}
use Rattle.std.specs.Option.{option_and_then, option_map_or}
use Rattle.wh_state.specs.State.{Object, TableKind, StreamKind, TaskKind, DynamicKind, task_in, dynamic_in, at_id}
use Rattle.wh_state.specs.State.{live_count, at_rest, stamped}
use Rattle.wh_state.specs.Objects.{table_at, task_at, dynamic_at, is_live_at, live_task, live_tasks}
use Rattle.wh_state.specs.Stored.{Stored, StoredTable, StoredKind, StoredObject, table_meant, kind_meant, object_meant}
use Rattle.wh_state.specs.Stored.{meant}
use Rattle.wh_state.specs.Commit.{Commit, applied, is_member}
use Rattle.wh_state.specs.Task.{Task}
use Rattle.wh_state.proofs.IdLaws.{map_count}
use Rattle.wh_state.proofs.MeaningLaws.{length_meant, at_id_meant, live_count_meant, task_at_meant}
use Rattle.wh_moment.specs.Upstream.{watched, dynamics_of}
use Rattle.wh_machine.specs.Tasks.{tasks_that}
use Rattle.wh_catalog.specs.Catalog.{objects_of, stored_of, state_of}
use Rattle.wh_catalog.specs.declared.catalog.Catalog.{Catalog}
use Rattle.wh_txn.proofs.SeenLemmas.{objects_are, catalog_table}

pub state_is : (c : Catalog) → state_of c ≡ record (meant (stored_of c)) { last = (state_of c).last }
unfolding state_of
state_is c = refl

pub rest_of : (c : Catalog) → at_rest (state_of c) ≡ meant (stored_of c)
unfolding state_of
rest_of c = refl

-- ---- objects

pub count_is : (c : Catalog) → length (state_of c).objects ≡ length (stored_of c).objects
count_is c = ap length (objects_are c) ∙ length_meant (stored_of c).objects

pub live_is : (c : Catalog) → live_count (state_of c).objects ≡ live_count (stored_of c).objects
live_is c = ap live_count (objects_are c) ∙ live_count_meant (stored_of c).objects

pub object_there : (c : Catalog) (id : ℕ)
    → at_id (state_of c).objects id ≡ option_map object_meant (at_id (stored_of c).objects id)
object_there c id =
    ap (λ (objects : List Object). at_id objects id) (objects_are c) ∙ at_id_meant (stored_of c).objects id

-- ---- tables

pub table_there : (c : Catalog) (id : ℕ) (t : StoredTable) → table_at (stored_of c).objects id ≡ Some t
    → table_at (state_of c).objects id ≡ Some (table_meant t)
table_there c id t is = catalog_table c id ∙ ap (option_map table_meant) is

pub table_missing : (c : Catalog) (id : ℕ) → table_at (stored_of c).objects id ≡ None
    → table_at (state_of c).objects id ≡ None
table_missing c id is = catalog_table c id ∙ ap (option_map table_meant) is

-- ---- tasks

pub task_there : (c : Catalog) (id : ℕ) → task_at (stored_of c).objects id ≡ task_at (state_of c).objects id
task_there c id =
    sym (ap (λ (objects : List Object). task_at objects id) (objects_are c) ∙ task_at_meant (stored_of c).objects id)

task_meant : (o : StoredObject) → live_task (object_meant o) ≡ live_task o
task_meant o = by_live o.is_live o.kind
  where
    by_kind : (k : StoredKind) → task_in (kind_meant k) ≡ task_in k
    by_kind (TableKind t) = refl
    by_kind (StreamKind s) = refl
    by_kind (TaskKind t) = refl
    by_kind (DynamicKind d t) = refl

    by_live : (live : Bool) (k : StoredKind) → cond live (task_in (kind_meant k)) None ≡ cond live (task_in k) None
    by_live true k = by_kind k
    by_live false k = refl

tasks_meant : (objects : List StoredObject) → live_tasks (map object_meant objects) ≡ live_tasks objects
tasks_meant [] = refl
tasks_meant (o ∷ os) = λ i. task_meant o i ∷ tasks_meant os i

-- how many live tasks meet a condition
pub count_meant : (c : Catalog) (takes : Task → Bool)
    → count_by (is_member takes) (objects_of c) ≡ tasks_that takes (state_of c).objects
unfolding state_of stored_of
count_meant c takes = sym (map_count object_meant (is_member takes)
    (λ (o : Object). option_map_or takes (live_task o) false) same (objects_of c))
  where
    by_live : (live : Bool) (k : StoredKind)
        → option_map_or takes (cond live (task_in (kind_meant k)) None) false
        ≡ live && option_map_or takes (task_in k) false
    by_live true (TableKind t) = refl
    by_live true (StreamKind s) = refl
    by_live true (TaskKind t) = refl
    by_live true (DynamicKind d t) = refl
    by_live false k = refl

    same : (o : StoredObject) → option_map_or takes (live_task (object_meant o)) false ≡ is_member takes o
    same o = by_live o.is_live o.kind

pub tasks_are : (c : Catalog) → live_tasks (state_of c).objects ≡ live_tasks (stored_of c).objects
tasks_are c = ap live_tasks (objects_are c) ∙ tasks_meant (stored_of c).objects

-- ---- dynamic tables

dynamic_meant : (k : StoredKind) → dynamic_in (kind_meant k) ≡ dynamic_in k
dynamic_meant (TableKind t) = refl
dynamic_meant (StreamKind s) = refl
dynamic_meant (TaskKind t) = refl
dynamic_meant (DynamicKind d t) = refl

dynamic_by : (found : Option StoredObject)
    → option_and_then (λ (o : Object). dynamic_in o.kind) (option_map object_meant found)
    ≡ option_and_then (λ (o : StoredObject). dynamic_in o.kind) found
dynamic_by None = refl
dynamic_by (Some o) = dynamic_meant o.kind

pub dynamic_there : (c : Catalog) (id : ℕ)
    → dynamic_at (stored_of c).objects id ≡ dynamic_at (state_of c).objects id
dynamic_there c id =
    sym (ap (option_and_then (λ (o : Object). dynamic_in o.kind)) (object_there c id)
    ∙ dynamic_by (at_id (stored_of c).objects id))

lives_by : (found : Option StoredObject)
    → option_map_or (λ (o : StoredObject). o.is_live) found false
    ≡ option_map_or (λ (o : Object). o.is_live) (option_map object_meant found) false
lives_by None = refl
lives_by (Some o) = refl

pub lives_there : (c : Catalog) (id : ℕ)
    → option_map_or (λ (o : StoredObject). o.is_live) (at_id (stored_of c).objects id) false
    ≡ is_live_at (state_of c).objects id
lives_there c id =
    lives_by (at_id (stored_of c).objects id)
    ∙ sym (ap (λ (found : Option Object). option_map_or (λ (o : Object). o.is_live) found false) (object_there c id))

watched_meant : (live : Bool) (k : StoredKind) → watched live (kind_meant k) ≡ watched live k
watched_meant live (TableKind t) = refl
watched_meant live (StreamKind s) = refl
watched_meant live (TaskKind t) = refl
watched_meant live (DynamicKind d t) = refl

dynamics_meant : (objects : List StoredObject) → dynamics_of (map object_meant objects) ≡ dynamics_of objects
dynamics_meant [] = refl
dynamics_meant (o ∷ os) = λ i. watched_meant o.is_live o.kind i ∷ dynamics_meant os i

pub dynamics_are : (c : Catalog) → dynamics_of (state_of c).objects ≡ dynamics_of (stored_of c).objects
dynamics_are c =
    ap (λ (objects : List Object). dynamics_of objects) (objects_are c) ∙ dynamics_meant (stored_of c).objects

-- ---- a commit

-- with it the state is what is meant
pub means_by : (c : Catalog) (s : Stored) (commit : Commit) → stored_of c ≡ applied s commit
    → (state_of c).last ≡ commit.stamp
    → state_of c ≡ meant (stored_of c)
means_by c s commit is last =
    state_is c ∙ ap (stamped (meant (stored_of c))) (last ∙ sym (ap (λ (t : Stored). t.last) is))
