-- The state of the machine.
--     VersionOf, TableOf       a table as the list of its versions, each with its content
--     ObjectOf                 a name, whether it lives, and what it is
--     Contents                 what a version of the machine holds: its rows, by row number, and the
--                              partitions that they are written in
--     Stream                   the changes of a table behind an offset
--     KindOf                   what an object is: a table, a stream, a task, or a dynamic table
--     on_table, table_in       what is done to the table of a kind, and the table that it has; a dynamic table has one
--     on_stream, stream_in, on_task, task_in, on_dynamic, dynamic_in     the same of streams, of tasks, and of what a
--                              dynamic table has beside its rows
--     columns_in, columns_at   the columns of an object
--     Version, Table, Kind, Object, State     those of the machine
--     at_rest, stamped         a state as the file keeps it, and at another stamp
--     rows_at                  the rows of a table for a moment
--     at_id, changed_at        an object's id is its place in order of creation, from 1
--     id_of                    the id of the live object of a name
use Rattle.std.specs.Prelude.{ℕ, zero, suc, ◌+◌, Bool, true, false, ◌&&◌, List, [], ◌∷◌, Option, Some, None, option_map}
use Rattle.std.specs.Prelude.{◌++◌, slice_get, slice_set, bytes_eq, count_by, codes, nat_le}
use Rattle.std.specs.List.{position, filter}
use Rattle.std.specs.Option.{option_map_or}
use Rattle.std.specs.Ordering.{nat_cmp}
use Rattle.std.specs.FinMap.{FinMap, empty, insert}
use Rattle.wh_value.specs.Value.{Row}
use Rattle.wh_value.specs.Column.{Column, VarcharType, BooleanType}
use Rattle.wh_frame.specs.Partition.{Partition}
use Rattle.wh_state.specs.Task.{Task}
use Rattle.wh_state.specs.Dynamic.{Dynamic}

-- ---- tables and objects, whatever a version holds

-- what a table holds at a stamp; for a base table the data timestamp is the stamp
pub record VersionOf (Content : Type 0) : Type 0 where
  pub stamp : ℕ
  pub data_timestamp : ℕ
  pub content : Content

-- the stamp of its creation; the retention is in days; the versions stand in the order of their stamps
pub record TableOf (Content : Type 0) : Type 0 where
  pub created : ℕ
  pub columns : List Column
  pub retention : ℕ
  pub next_row : ℕ
  pub next_partition : ℕ
  pub versions : List (VersionOf Content)

-- a dropped object stays, with the name that it had
pub record ObjectOf (Kind : Type 0) : Type 0 where
  pub name : List ℕ
  pub is_live : Bool
  pub kind : Kind

-- at a stamp, for a moment
abbrev pub version_for : {Content : Type 0} → ℕ → ℕ → Content → VersionOf Content
version_for stamp moment content = record { stamp = stamp; data_timestamp = moment; content = content }

abbrev pub version_at : {Content : Type 0} → ℕ → Content → VersionOf Content
version_at stamp content = version_for stamp stamp content

-- a table as it is created: one version, with nothing in it
abbrev pub new_table : {Content : Type 0} → Content → List Column → ℕ → ℕ → TableOf Content
new_table nothing columns retention stamp = record {
  created = stamp;
  columns = columns;
  retention = retention;
  next_row = 1;
  next_partition = 1;
  versions = version_at stamp nothing ∷ [];
}

-- a dynamic table as it is created: without a version
abbrev pub empty_table : {Content : Type 0} → List Column → ℕ → TableOf Content
empty_table columns stamp = record {
  created = stamp;
  columns = columns;
  retention = 0;
  next_row = 1;
  next_partition = 1;
  versions = [];
}

abbrev pub new_object : {Kind : Type 0} → List ℕ → Kind → ObjectOf Kind
new_object name kind = record { name = name; is_live = true; kind = kind }

-- a dropped object keeps its name and its id
abbrev pub dropped : {Kind : Type 0} → ObjectOf Kind → ObjectOf Kind
dropped o = record o { is_live = false }

abbrev pub last_of : {X : Type 0} → List X → Option X
last_of [] = None
last_of (x ∷ []) = Some x
last_of (x ∷ y ∷ xs) = last_of (y ∷ xs)

abbrev pub content_in : {Content : Type 0} → Content → Option (VersionOf Content) → Content
content_in nothing None = nothing
content_in nothing (Some v) = v.content

-- what the last version holds; nothing where there is no version
abbrev pub last_content : {Content : Type 0} → Content → TableOf Content → Content
last_content nothing t = content_in nothing (last_of t.versions)

-- ---- lists by ids

abbrev pub at_id : {X : Type 0} → List X → ℕ → Option X
at_id xs zero = None
at_id xs (suc place) = slice_get xs place

-- the list with another value at an id's place
abbrev pub with_id : {X : Type 0} → List X → ℕ → X → List X
with_id xs zero x = xs
with_id xs (suc place) x = slice_set xs place x

abbrev pub put_at : {X : Type 0} → List X → ℕ → Option X → List X
put_at xs id None = xs
put_at xs id (Some x) = with_id xs id x

-- the list with what stands at an id's place changed, if there is one
abbrev pub changed_at : {X : Type 0} → List X → ℕ → (X → X) → List X
changed_at xs id f = put_at xs id (option_map f (at_id xs id))

-- ---- objects by names

abbrev pub is_named : {Kind : Type 0} → List ℕ → ObjectOf Kind → Bool
is_named name o = o.is_live && bytes_eq o.name name

abbrev pub id_of : {Kind : Type 0} → List ℕ → List (ObjectOf Kind) → Option ℕ
id_of name objects = option_map (λ place. place + 1) (position (is_named name) objects)

abbrev pub live_count : {Kind : Type 0} → List (ObjectOf Kind) → ℕ
live_count objects = count_by (λ o. o.is_live) objects

-- ---- streams

-- a column of the name that changes of rows are told by
abbrev pub metadata_columns : List Column
metadata_columns = record { name = codes "METADATA$ACTION"; column_type = VarcharType }
    ∷ record { name = codes "METADATA$ISUPDATE"; column_type = BooleanType }
    ∷ record { name = codes "METADATA$ROW_ID"; column_type = VarcharType }
    ∷ []

-- on the table of an id; its offset is the stamp behind which it shows changes, and its columns are those
-- of its table with three more
pub record Stream : Type 0 where
  pub source : ℕ
  pub is_append_only : Bool
  pub offset : ℕ
  pub columns : List Column

-- as it is created on a table with these columns
abbrev pub new_stream : ℕ → Bool → ℕ → List Column → Stream
new_stream source is_append_only offset columns = record {
  source = source;
  is_append_only = is_append_only;
  offset = offset;
  columns = columns ++ metadata_columns;
}

abbrev pub with_offset : ℕ → Stream → Stream
with_offset offset s = record s { offset = offset }

-- ---- kinds

pub data KindOf (Table : Type 0) : Type 0 where
  TableKind : Table → KindOf Table
  StreamKind : Stream → KindOf Table
  TaskKind : Task → KindOf Table
  DynamicKind : Dynamic → Table → KindOf Table

-- its table changed, if it has one
abbrev pub on_table : {T U : Type 0} → (T → U) → KindOf T → KindOf U
on_table f (TableKind t) = TableKind (f t)
on_table f (StreamKind s) = StreamKind s
on_table f (TaskKind t) = TaskKind t
on_table f (DynamicKind d t) = DynamicKind d (f t)

abbrev pub table_in : {T : Type 0} → KindOf T → Option T
table_in (TableKind t) = Some t
table_in (StreamKind s) = None
table_in (TaskKind t) = None
table_in (DynamicKind d t) = Some t

-- its stream changed, if it is one
abbrev pub on_stream : {T : Type 0} → (Stream → Stream) → KindOf T → KindOf T
on_stream f (TableKind t) = TableKind t
on_stream f (StreamKind s) = StreamKind (f s)
on_stream f (TaskKind t) = TaskKind t
on_stream f (DynamicKind d t) = DynamicKind d t

abbrev pub stream_in : {T : Type 0} → KindOf T → Option Stream
stream_in (TableKind t) = None
stream_in (StreamKind s) = Some s
stream_in (TaskKind t) = None
stream_in (DynamicKind d t) = None

-- its task changed, if it is one
abbrev pub on_task : {T : Type 0} → (Task → Task) → KindOf T → KindOf T
on_task f (TableKind t) = TableKind t
on_task f (StreamKind s) = StreamKind s
on_task f (TaskKind t) = TaskKind (f t)
on_task f (DynamicKind d t) = DynamicKind d t

abbrev pub task_in : {T : Type 0} → KindOf T → Option Task
task_in (TableKind t) = None
task_in (StreamKind s) = None
task_in (TaskKind t) = Some t
task_in (DynamicKind d t) = None

-- what it has beside its rows changed, if it is a dynamic table
abbrev pub on_dynamic : {T : Type 0} → (Dynamic → Dynamic) → KindOf T → KindOf T
on_dynamic f (TableKind t) = TableKind t
on_dynamic f (StreamKind s) = StreamKind s
on_dynamic f (TaskKind t) = TaskKind t
on_dynamic f (DynamicKind d t) = DynamicKind (f d) t

abbrev pub dynamic_in : {T : Type 0} → KindOf T → Option Dynamic
dynamic_in (TableKind t) = None
dynamic_in (StreamKind s) = None
dynamic_in (TaskKind t) = None
dynamic_in (DynamicKind d t) = Some d

abbrev pub columns_in : {Content : Type 0} → KindOf (TableOf Content) → List Column
columns_in (TableKind t) = t.columns
columns_in (StreamKind s) = s.columns
columns_in (TaskKind t) = []
columns_in (DynamicKind d t) = t.columns

-- none where there is no such object
abbrev pub columns_at : {Content : Type 0} → List (ObjectOf (KindOf (TableOf Content))) → ℕ → List Column
columns_at objects id = option_map_or (λ o. columns_in o.kind) (at_id objects id) []

-- ---- the machine's

-- rows by row number
abbrev pub Rows : Type 0
Rows = FinMap nat_cmp Row

-- from the partitions the numbers of later ones follow, and nothing else
pub record Contents : Type 0 where
  pub rows : Rows
  pub partitions : List Partition

abbrev pub nothing_held : Contents
nothing_held = record { rows = empty; partitions = [] }

abbrev pub Version : Type 0
Version = VersionOf Contents

abbrev pub Table : Type 0
Table = TableOf Contents

abbrev pub Kind : Type 0
Kind = KindOf Table

abbrev pub Object : Type 0
Object = ObjectOf Kind

-- the greatest stamp so far, that of the last commit, and the objects in order of creation
pub record State : Type 0 where
  pub last : ℕ
  pub committed : ℕ
  pub objects : List Object

abbrev pub first_state : State
first_state = record { last = 0; committed = 0; objects = [] }

-- a state as the file keeps it: its last stamp is that of its last commit
abbrev pub at_rest : State → State
at_rest s = record s { last = s.committed }

abbrev pub stamped : State → ℕ → State
stamped s stamp = record s { last = stamp }

-- the rows with more entries, one after the other
abbrev pub with_entries : Rows → List (ℕ × Row) → Rows
with_entries rows [] = rows
with_entries rows (e ∷ es) = with_entries (insert rows e.0 e.1) es

-- the rows of a table's last version, and its partitions
abbrev pub last_rows : Table → Rows
last_rows t = (last_content nothing_held t).rows

abbrev pub last_partitions : Table → List Partition
last_partitions t = (last_content nothing_held t).partitions

-- those of the last version whose rows stand for no later moment; none where there is no such version
abbrev pub rows_at : Table → ℕ → Rows
rows_at t time = (content_in nothing_held (last_of (filter (λ v. nat_le v.data_timestamp time) t.versions))).rows
