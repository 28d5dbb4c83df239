-- What a file says, and the state that it means.
--     length_meant, at_id_meant, with_id_meant, id_of_meant, live_count_meant     objects of a file, by ids and names
--     last_content_meant, last_rows_meant, last_partitions_meant                  what a table's last version holds
--     columns_meant                                                               the columns of an object
--     table_at_meant                                                              tables of a file
--     stream_at_meant                                                             streams of a file
--     names_meant, kept_for_meant                                                 what a query sees, and its groups
use Rattle.std.proofs.Common.{◌∷◌, ◌++◌, ◌≡◌, ℕ, ◌+◌, Bool, cond, List, [], length, map, Option, Some, None, option_map}
use Rattle.std.proofs.Common.{refl, ap, ◌∙◌}
use Rattle.std.specs.Option.{option_and_then, option_map_or}
use Rattle.std.proofs.lemmas.List.{length-map}
use Rattle.wh_state.specs.State.{task_in}
use Rattle.wh_state.specs.State.{TaskKind, DynamicKind}
use Rattle.wh_state.specs.State.{Contents, Object, TableKind, StreamKind, nothing_held, table_in, stream_in, columns_in}
use Rattle.wh_state.specs.State.{at_id, with_id, id_of, is_named, live_count, last_of, content_in, last_content}
use Rattle.wh_state.specs.State.{last_rows, last_partitions, columns_at}
use Rattle.wh_state.specs.Objects.{as_task, task_at}
use Rattle.wh_state.specs.Objects.{as_table, as_stream, table_at, stream_at}
use Rattle.wh_state.specs.Stored.{StoredVersion, StoredTable, StoredKind, StoredObject, standing, rows_of}
use Rattle.wh_state.specs.Stored.{contents_meant, version_meant, table_meant, kind_meant, object_meant}
use Rattle.wh_state.proofs.IdLaws.{map_at, map_with, map_last, map_position, map_count}
use Rattle.wh_state.specs.Task.{Task, root_by}
use Rattle.wh_naming.specs.Scope.{Named}
use Rattle.wh_naming.specs.Select.{bound_query}
use Rattle.wh_maintenance.specs.Above.{grouping}
use Rattle.wh_state.specs.Dynamic.{Source, DynamicQuery}
use Rattle.wh_state.specs.Bound.{source_kind, named_as, names_among, kept_first, kept_for}

-- ---- objects

pub length_meant : (objects : List StoredObject) → length (map object_meant objects) ≡ length objects
length_meant objects = length-map _ _

pub at_id_meant : (objects : List StoredObject) (id : ℕ)
    → at_id (map object_meant objects) id ≡ option_map object_meant (at_id objects id)
at_id_meant objects id = map_at object_meant objects id

pub with_id_meant : (objects : List StoredObject) (id : ℕ) (o : StoredObject)
    → map object_meant (with_id objects id o) ≡ with_id (map object_meant objects) id (object_meant o)
with_id_meant objects id o = map_with object_meant objects id o

pub id_of_meant : (name : List ℕ) (objects : List StoredObject)
    → id_of name (map object_meant objects) ≡ id_of name objects
id_of_meant name objects =
    ap (option_map (λ place. place + 1)) (map_position object_meant (is_named name) (is_named name) (λ o. refl) objects)

pub live_count_meant : (objects : List StoredObject) → live_count (map object_meant objects) ≡ live_count objects
live_count_meant objects = map_count object_meant (λ o. o.is_live) (λ o. o.is_live) (λ o. refl) objects

-- what is said of the object of an id, if there is one
found_meant : {X : Type 0} (of : Option Object → X) (stored : Option StoredObject → X) → of None ≡ stored None
    → ((o : StoredObject) → of (Some (object_meant o)) ≡ stored (Some o)) → (objects : List StoredObject) (id : ℕ)
    → of (at_id (map object_meant objects) id) ≡ stored (at_id objects id)
found_meant of stored of_none of_some objects id = ap of (at_id_meant objects id) ∙ through (at_id objects id)
  where
    through : (found : Option StoredObject) → of (option_map object_meant found) ≡ stored found
    through None = of_none
    through (Some o) = of_some o

-- ---- tables

-- what the last version holds
pub last_content_meant : (t : StoredTable) → last_content nothing_held (table_meant t) ≡ contents_meant (standing t)
last_content_meant t = ap (content_in nothing_held) (map_last version_meant t.versions) ∙ through (last_of t.versions)
  where
    through : (last : Option StoredVersion)
        → content_in nothing_held (option_map version_meant last) ≡ contents_meant (content_in [] last)
    through None = refl
    through (Some v) = refl

pub last_rows_meant : (t : StoredTable) → last_rows (table_meant t) ≡ rows_of (standing t)
last_rows_meant t = ap (λ (c : Contents). c.rows) (last_content_meant t)

pub last_partitions_meant : (t : StoredTable) → last_partitions (table_meant t) ≡ standing t
last_partitions_meant t = ap (λ (c : Contents). c.partitions) (last_content_meant t)

pub table_at_meant : (objects : List StoredObject) (id : ℕ)
    → table_at (map object_meant objects) id ≡ option_map table_meant (table_at objects id)
table_at_meant objects id =
    found_meant (option_and_then as_table) (λ found. option_map table_meant (option_and_then as_table found)) refl
    (λ o. by_kind o.kind) objects id
  where
    by_kind : (k : StoredKind) → table_in (kind_meant k) ≡ option_map table_meant (table_in k)
    by_kind (TableKind t) = refl
    by_kind (StreamKind s) = refl
    by_kind (TaskKind t) = refl
    by_kind (DynamicKind d t) = refl

-- ---- streams

pub stream_at_meant : (objects : List StoredObject) (id : ℕ)
    → stream_at (map object_meant objects) id ≡ stream_at objects id
stream_at_meant objects id =
    found_meant (option_and_then as_stream) (option_and_then as_stream) refl (λ o. by_kind o.kind) objects id
  where
    by_kind : (k : StoredKind) → stream_in (kind_meant k) ≡ stream_in k
    by_kind (TableKind t) = refl
    by_kind (StreamKind s) = refl
    by_kind (TaskKind t) = refl
    by_kind (DynamicKind d t) = refl

-- ---- tasks

pub task_at_meant : (objects : List StoredObject) (id : ℕ)
    → task_at (map object_meant objects) id ≡ task_at objects id
task_at_meant objects id =
    found_meant (option_and_then as_task) (option_and_then as_task) refl (λ o. by_kind o.kind) objects id
  where
    by_kind : (k : StoredKind) → task_in (kind_meant k) ≡ task_in k
    by_kind (TableKind t) = refl
    by_kind (StreamKind s) = refl
    by_kind (TaskKind t) = refl
    by_kind (DynamicKind d t) = refl

pub root_meant : (objects : List StoredObject) (id : ℕ) (after : List ℕ)
    → root_by (task_at (map object_meant objects)) id after ≡ root_by (task_at objects) id after
root_meant objects id [] = refl
root_meant objects id (first ∷ others) =
    ap (λ (found : Option Task). option_map_or (λ t. t.root) found id) (task_at_meant objects first)

-- ---- columns, and what a query sees

kind_seen : (k : StoredKind) → source_kind (kind_meant k) ≡ source_kind k
kind_seen (TableKind t) = refl
kind_seen (StreamKind s) = refl
kind_seen (TaskKind t) = refl
kind_seen (DynamicKind d t) = refl

columns_seen : (k : StoredKind) → columns_in (kind_meant k) ≡ columns_in k
columns_seen (TableKind t) = refl
columns_seen (StreamKind s) = refl
columns_seen (TaskKind t) = refl
columns_seen (DynamicKind d t) = refl

pub columns_meant : (objects : List StoredObject) (id : ℕ)
    → columns_at (map object_meant objects) id ≡ columns_at objects id
columns_meant objects id =
    found_meant (λ found. option_map_or (λ (o : Object). columns_in o.kind) found [])
    (λ found. option_map_or (λ (o : StoredObject). columns_in o.kind) found []) refl (λ o. columns_seen o.kind)
    objects id

-- its query sees the same of what a file says and of what that means
pub names_meant : (objects : List StoredObject) (sources : List Source)
    → names_among (map object_meant objects) sources ≡ names_among objects sources
names_meant objects [] = refl
names_meant objects (s ∷ ss) =
    ap (λ (found : Option Object). option_map_or (λ o. named_as s o ∷ []) found []
    ++ names_among (map object_meant objects) ss) (at_id_meant objects s.id)
    ∙ by_found (at_id objects s.id) (names_meant objects ss)
  where
    by_found : (found : Option StoredObject)
        → names_among (map object_meant objects) ss ≡ names_among objects ss
        → option_map_or (λ o. named_as s o ∷ []) (option_map object_meant found) []
        ++ names_among (map object_meant objects) ss
        ≡ option_map_or (λ o. named_as s o ∷ []) found [] ++ names_among objects ss
    by_found None rest = rest
    by_found (Some o) rest = rw (kind_seen o.kind, columns_seen o.kind, rest) refl

-- so its groups are kept alike
pub kept_for_meant : (objects : List StoredObject) (is_incremental : Bool) (q : DynamicQuery)
    → kept_for (map object_meant objects) is_incremental q ≡ kept_for objects is_incremental q
kept_for_meant objects is_incremental q =
    ap (λ (names : List Named). cond is_incremental
    (option_map kept_first (grouping (bound_query q.tree names 0).query)) None) (names_meant objects q.sources)
