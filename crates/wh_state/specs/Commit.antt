-- Commits, and what they do to what a file says.
--     Form                 whether statements are told by their texts, or with what they mean
--     Change, Commit       what is changed at a stamp, as it is meant
--     TextChange, TextCommit, as_text     the same as its bytes give it
--     Applies, applied     when a commit may stand in a file, and what the file then says
--     Leads                commits that apply one after the other
use Rattle.std.specs.Prelude.{◌≡◌, ℕ, ◌+◌, ◌<◌, ◌≤◌, ◌⊎◌, Bool, IsTrue, List, [], ◌∷◌, ◌++◌, length, Option, IsNone}
use Rattle.std.specs.Prelude.{false, not, ◌&&◌, map, nat_eq, is_some, count_by, Some, None, if◌then◌else◌}
use Rattle.std.specs.FinMap.{get}
use Rattle.std.specs.List.{AllByRecursion, list_any}
use Rattle.std.specs.Option.{IfSome, IsSomeAnd, option_map_or}
use Rattle.wh_value.specs.Column.{Column}
use Rattle.wh_value.specs.Fits.{row_fits}
use Rattle.wh_value.specs.Limit.{bound}
use Rattle.wh_value.specs.declared.limit.Limit.TheVariants as limits
use Rattle.wh_frame.specs.Partition.{Partition, first_number, last_number}
use Rattle.wh_state.specs.State.{new_table, new_object, new_stream, with_offset, dropped, last_of, at_id, changed_at}
use Rattle.wh_state.specs.State.{id_of, live_count, VersionOf, KindOf, TableKind, StreamKind, on_table, on_stream}
use Rattle.wh_state.specs.State.{table_in}
use Rattle.wh_state.specs.State.{stream_in, columns_at}
use Rattle.wh_state.specs.State.{ObjectOf, TaskKind, DynamicKind, on_task, on_dynamic, task_in, dynamic_in, empty_table}
use Rattle.wh_state.specs.Task.{TaskTexts, TaskBody, texts_of, TaskState, Ending, TaskRun, Run, Task, new_task}
use Rattle.wh_state.specs.Task.{with_state}
use Rattle.wh_state.specs.Task.{with_run, with_ended, root_by, most_failures}
use Rattle.wh_maintenance.specs.Standing.{Groups}
use Rattle.wh_maintenance.specs.Entries.{GroupEntry}
use Rattle.wh_state.specs.Dynamic.{DynamicTexts, DynamicQuery, query_texts_of, DynamicState, Dynamic, new_dynamic}
use Rattle.wh_state.specs.Dynamic.{with_dynamic_state, most_failed_refreshes, Kept, GroupsChange, behind_change}
use Rattle.wh_state.specs.Objects.{task_at, dynamic_at, is_table}
use Rattle.wh_state.specs.Bound.{Binds, kept_for}
use Rattle.wh_state.specs.Edits.{without, is_among}
use Rattle.wh_state.specs.Stored.{StoredTable, StoredKind, StoredObject, Stored, standing}

-- a new table
pub record TableChange : Type 0 where
  pub id : ℕ
  pub name : List ℕ
  pub retention : ℕ
  pub columns : List Column

-- a new version of a table: partitions of the last one by their numbers that go, and those that come
pub record VersionChange : Type 0 where
  pub id : ℕ
  pub data_timestamp : ℕ
  pub next_row : ℕ
  pub width : ℕ
  pub removed : List ℕ
  pub added : List Partition

-- a new stream on the table of an id
pub record StreamChange : Type 0 where
  pub id : ℕ
  pub name : List ℕ
  pub source : ℕ
  pub is_append_only : Bool
  pub offset : ℕ

-- what a commit says of statements: their texts, as its bytes do, or what they mean too
pub data Form : Type 0 where
  InTexts : Form
  InTrees : Form

abbrev pub TaskPart : Form → Type 0
TaskPart InTexts = TaskTexts
TaskPart InTrees = TaskBody

abbrev pub DynamicPart : Form → Type 0
DynamicPart InTexts = DynamicTexts
DynamicPart InTrees = DynamicQuery

-- a new task, behind the tasks of some ids
pub record TaskChangeIn (form : Form) : Type 0 where
  pub id : ℕ
  pub name : List ℕ
  pub minutes : ℕ
  pub after : List ℕ
  pub runs : TaskPart form

-- a new dynamic table
pub record DynamicChangeIn (form : Form) : Type 0 where
  pub id : ℕ
  pub name : List ℕ
  pub lag : ℕ
  pub is_incremental : Bool
  pub query : DynamicPart form
  pub columns : List Column

pub data ChangeIn (form : Form) : Type 0 where
  CreatesTable : TableChange → ChangeIn form
  -- by its id
  Drops : (id : ℕ) → ChangeIn form
  PushesVersion : VersionChange → ChangeIn form
  CreatesStream : StreamChange → ChangeIn form
  SetsOffset : (id offset : ℕ) → ChangeIn form
  CreatesTask : TaskChangeIn form → ChangeIn form
  SetsTask : (id : ℕ) → TaskState → ChangeIn form
  StartsRun : (root : ℕ) → (tasks : List ℕ) → ChangeIn form
  FinishesTask : (root task : ℕ) → Ending → ChangeIn form
  CreatesDynamic : DynamicChangeIn form → ChangeIn form
  SetsDynamic : (id : ℕ) → DynamicState → ChangeIn form
  SetsGroups : (id : ℕ) → GroupsChange → ChangeIn form

pub record CommitIn (form : Form) : Type 0 where
  pub stamp : ℕ
  pub changes : List (ChangeIn form)

abbrev pub Change : Type 0
Change = ChangeIn InTrees

abbrev pub Commit : Type 0
Commit = CommitIn InTrees

abbrev pub TextChange : Type 0
TextChange = ChangeIn InTexts

abbrev pub TextCommit : Type 0
TextCommit = CommitIn InTexts

abbrev pub TaskChange : Type 0
TaskChange = TaskChangeIn InTrees

abbrev pub task_as_text : TaskChange → TaskChangeIn InTexts
task_as_text c =
    record { id = c.id; name = c.name; minutes = c.minutes; after = c.after; runs = texts_of c.runs }

abbrev pub DynamicChange : Type 0
DynamicChange = DynamicChangeIn InTrees

abbrev pub dynamic_as_text : DynamicChange → DynamicChangeIn InTexts
dynamic_as_text c = record {
  id = c.id;
  name = c.name;
  lag = c.lag;
  is_incremental = c.is_incremental;
  query = query_texts_of c.query;
  columns = c.columns;
}

abbrev pub change_as_text : Change → TextChange
change_as_text (CreatesTable c) = CreatesTable c
change_as_text (Drops id) = Drops id
change_as_text (PushesVersion c) = PushesVersion c
change_as_text (CreatesStream c) = CreatesStream c
change_as_text (SetsOffset id offset) = SetsOffset id offset
change_as_text (CreatesTask c) = CreatesTask (task_as_text c)
change_as_text (SetsTask id state) = SetsTask id state
change_as_text (StartsRun root tasks) = StartsRun root tasks
change_as_text (FinishesTask root task ending) = FinishesTask root task ending
change_as_text (CreatesDynamic c) = CreatesDynamic (dynamic_as_text c)
change_as_text (SetsDynamic id state) = SetsDynamic id state
change_as_text (SetsGroups id c) = SetsGroups id c

abbrev pub as_text : Commit → TextCommit
as_text c = record { stamp = c.stamp; changes = map change_as_text c.changes }

-- ---- what a change leaves

abbrev pub pushed : ℕ → VersionChange → StoredTable → StoredTable
pushed stamp c t = record t {
  next_row = c.next_row;
  next_partition = t.next_partition + length c.added;
  versions = t.versions ++ (record {
    stamp = stamp;
    data_timestamp = c.data_timestamp;
    content = without c.removed (standing t) ++ c.added;
  }) ∷ [];
}

abbrev pub pushed_kind : ℕ → VersionChange → StoredKind → StoredKind
pushed_kind stamp c k = on_table (pushed stamp c) k

abbrev pub pushed_object : ℕ → VersionChange → StoredObject → StoredObject
pushed_object stamp c o = record o { kind = pushed_kind stamp c o.kind }

abbrev pub offset_set_kind : ℕ → StoredKind → StoredKind
offset_set_kind offset k = on_stream (with_offset offset) k

abbrev pub offset_set : ℕ → StoredObject → StoredObject
offset_set offset o = record o { kind = offset_set_kind offset o.kind }

abbrev pub on_task_stored : (Task → Task) → StoredObject → StoredObject
on_task_stored f o = record o { kind = on_task f o.kind }

abbrev pub on_dynamic_stored : (Dynamic → Dynamic) → StoredObject → StoredObject
on_dynamic_stored f o = record o { kind = on_dynamic f o.kind }

-- the root of a new task of an id
abbrev pub root_among : {T : Type 0} → List (ObjectOf (KindOf T)) → ℕ → List ℕ → ℕ
root_among objects id after = root_by (task_at objects) id after

unfoldable pub changed : ℕ → List StoredObject → Change → List StoredObject
changed stamp objects (CreatesTable c) =
    objects ++ new_object c.name (TableKind (new_table [] c.columns c.retention stamp)) ∷ []
changed stamp objects (Drops id) = changed_at objects id dropped
changed stamp objects (PushesVersion c) = changed_at objects c.id (pushed_object stamp c)
changed stamp objects (CreatesStream c) = objects ++ new_object c.name
    (StreamKind (new_stream c.source c.is_append_only c.offset (columns_at objects c.source))) ∷ []
changed stamp objects (SetsOffset id offset) = changed_at objects id (offset_set offset)
changed stamp objects (CreatesTask c) = objects ++ new_object c.name
    (TaskKind (new_task c.minutes c.after (root_among objects (length objects + 1) c.after) c.runs)) ∷ []
changed stamp objects (SetsTask id state) = changed_at objects id (on_task_stored (with_state state))
changed stamp objects (StartsRun root tasks) = changed_at objects root (on_task_stored (with_run tasks))
changed stamp objects (FinishesTask root task ending) =
    changed_at objects root (on_task_stored (with_ended task ending))
changed stamp objects (CreatesDynamic c) = objects ++ new_object c.name
    (DynamicKind (new_dynamic c.lag c.is_incremental (kept_for objects c.is_incremental c.query) c.query)
    (empty_table c.columns stamp)) ∷ []
changed stamp objects (SetsDynamic id state) = changed_at objects id (on_dynamic_stored (with_dynamic_state state))
changed stamp objects (SetsGroups id c) = changed_at objects id (on_dynamic_stored (behind_change c))

abbrev pub all_changed : ℕ → List StoredObject → List Change → List StoredObject
all_changed stamp objects [] = objects
all_changed stamp objects (c ∷ cs) = all_changed stamp (changed stamp objects c) cs

-- the stamp is the commit's, whatever it changes
abbrev pub applied : Stored → Commit → Stored
applied s c = record { last = c.stamp; objects = all_changed c.stamp s.objects c.changes }

-- ---- when a change applies

abbrev pub IsStoredName : List ℕ → Type 0
IsStoredName name = (0 < length name) × (length name ≤ bound limits.Name)

-- the next id, and a name that is free
pub record IsNewObject (objects : List StoredObject) (id : ℕ) (given : List ℕ) : Type 0 where
  pub next_id : id ≡ length objects + 1
  pub few : live_count objects < bound limits.Objects
  pub free : IsNone (id_of given objects)
  pub name : IsStoredName given

pub record TableApplies (objects : List StoredObject) (c : TableChange) : Type 0 where
  pub object : IsNewObject objects c.id c.name
  pub some_column : 0 < length c.columns
  pub few_columns : length c.columns ≤ bound limits.Columns
  pub column_names : AllByRecursion (λ column. IsStoredName column.name) c.columns
  pub retention : c.retention ≤ bound limits.Retention

abbrev pub AreApart : Partition → Partition → Type 0
AreApart p q = (last_number p.rows < first_number q.rows) ⊎ (last_number q.rows < first_number p.rows)

-- each is apart from those before it and from each later one
abbrev pub AllApart : List Partition → List Partition → Type 0
AllApart before [] = Unit {0}
AllApart before (p ∷ ps) = AllByRecursion (AreApart p) before × AllApart (p ∷ before) ps

-- the numbers rise by one from the next on
abbrev pub NumberedFrom : ℕ → List Partition → Type 0
NumberedFrom next [] = Unit {0}
NumberedFrom next (p ∷ ps) = (p.number ≡ next) × NumberedFrom (next + 1) ps

-- a value of each column's type in each row, and row numbers below the next one
abbrev pub RowsFit : List Column → ℕ → Partition → Type 0
RowsFit columns next p = AllByRecursion (λ e. IsTrue (row_fits columns e.1) × (e.0 < next)) p.rows

-- one of these partitions has that number
abbrev pub Stands : List Partition → ℕ → Type 0
Stands partitions number = IsTrue (list_any (λ p. nat_eq number p.number) partitions)

abbrev pub DoesNotFall : Option (VersionOf (List Partition)) → ℕ → Type 0
DoesNotFall last timestamp = IfSome last (λ v. v.data_timestamp ≤ timestamp)

pub record VersionApplies (t : StoredTable) (c : VersionChange) : Type 0 where
  pub timestamp : DoesNotFall (last_of t.versions) c.data_timestamp
  pub width : c.width ≡ length t.columns
  pub next_row : c.next_row ≤ bound limits.RowNumber
  pub next_partition : t.next_partition + length c.added ≤ bound limits.PartitionNumber
  pub removed : AllByRecursion (Stands (standing t)) c.removed
  pub numbers : NumberedFrom t.next_partition c.added
  pub rows : AllByRecursion (RowsFit t.columns c.next_row) c.added
  pub apart : AllApart (without c.removed (standing t)) c.added

abbrev pub FitsKind : StoredKind → VersionChange → Type 0
FitsKind k c = IsSomeAnd (table_in k) (λ t. VersionApplies t c)

abbrev pub FitsObject : Option StoredObject → VersionChange → Type 0
FitsObject found c = IsSomeAnd found (λ o. IsTrue o.is_live × FitsKind o.kind c)

abbrev pub IsLiveObject : Option StoredObject → Type 0
IsLiveObject found = IsSomeAnd found (λ o. IsTrue o.is_live)

-- a live table
abbrev pub IsTableKind : StoredKind → Type 0
IsTableKind k = IsSomeAnd (table_in k) (λ t. Unit {0})

abbrev pub IsLiveTable : Option StoredObject → Type 0
IsLiveTable found = IsSomeAnd found (λ o. IsTrue o.is_live × IsTableKind o.kind)

-- the rows that were added to a dynamic table aren't shown by themselves
abbrev pub MayShow : Bool → Option StoredObject → Type 0
MayShow is_append_only found = IsTrue is_append_only → IsSomeAnd found (λ o. IsTrue (is_table o.kind))

-- on a table or a dynamic table
pub record StreamApplies (objects : List StoredObject) (c : StreamChange) : Type 0 where
  pub object : IsNewObject objects c.id c.name
  pub source : IsLiveTable (at_id objects c.source)
  pub mode : MayShow c.is_append_only (at_id objects c.source)

-- an offset doesn't fall
abbrev pub TakesOffset : StoredKind → ℕ → Type 0
TakesOffset k offset = IsSomeAnd (stream_in k) (λ s. s.offset ≤ offset)

abbrev pub OffsetApplies : Option StoredObject → ℕ → Type 0
OffsetApplies found offset = IsSomeAnd found (λ o. IsTrue o.is_live × TakesOffset o.kind offset)

-- ---- tasks

-- a live task that meets a condition
abbrev pub IsLiveTask : (Task → Type 0) → Option StoredObject → Type 0
IsLiveTask P found = IsSomeAnd found (λ o. IsTrue o.is_live × IsSomeAnd (task_in o.kind) P)

-- how many live tasks meet a condition
abbrev pub is_member : (Task → Bool) → StoredObject → Bool
is_member takes o = o.is_live && option_map_or takes (task_in o.kind) false

abbrev pub count_of_root : List StoredObject → ℕ → ℕ
count_of_root objects root = count_by (is_member (λ t. nat_eq t.root root)) objects

abbrev pub child_count : List StoredObject → ℕ → ℕ
child_count objects parent = count_by (is_member (λ t. is_among parent t.after)) objects

abbrev pub waits : TaskRun → Bool
waits r = not (is_some r.ending)

abbrev pub waits_in : Run → ℕ → Bool
waits_in run task = list_any (λ r. nat_eq r.task task && waits r) run

-- predecessors are tasks of one root and stand beside 0 minutes
pub record TaskApplies (objects : List StoredObject) (c : TaskChange) : Type 0 where
  pub object : IsNewObject objects c.id c.name
  pub minutes : c.minutes ≤ bound limits.MostSchedule
  pub either : (c.after ≡ []) ⊎ (c.minutes ≡ 0)
  pub few_after : length c.after ≤ bound limits.Predecessors
  pub after : AllByRecursion (λ id. IsLiveTask (λ t. t.root ≡ root_among objects c.id c.after) (at_id objects id))
      c.after
  pub few_tasks : count_of_root objects (root_among objects c.id c.after) < bound limits.GraphTasks
  pub few_children : AllByRecursion (λ id. child_count objects id < bound limits.Children) c.after

abbrev pub StateApplies : Option StoredObject → TaskState → Type 0
StateApplies found state = IsLiveTask (λ t. state.failures ≤ most_failures) found

-- no run of the root is under way, and what is listed is the root and tasks below it
pub record RunApplies (objects : List StoredObject) (root : ℕ) (tasks : List ℕ) : Type 0 where
  pub none : IsLiveTask (λ t. (t.root ≡ root) × (list_any waits t.run ≡ false)) (at_id objects root)
  pub has_root : IsTrue (is_among root tasks)
  pub members : AllByRecursion (λ id. IsLiveTask (λ t. t.root ≡ root) (at_id objects id)) tasks

abbrev pub EndApplies : Option StoredObject → ℕ → Type 0
EndApplies root task = IsLiveTask (λ t. IsTrue (waits_in t.run task)) root

-- a task that is dropped has no live child, and no run of its root is under way
pub record TaskMayGo (objects : List StoredObject) (id : ℕ) (t : Task) : Type 0 where
  pub childless : child_count objects id ≡ 0
  pub at_rest : IsLiveTask (λ r. list_any waits r.run ≡ false) (at_id objects t.root)

-- ---- dynamic tables

-- DOWNSTREAM, or so many seconds
abbrev pub IsLag : ℕ → Type 0
IsLag lag = (lag ≡ 0) ⊎ ((bound limits.LeastTargetLag ≤ lag) × (lag ≤ bound limits.MostTargetLag))

pub record DynamicApplies (objects : List StoredObject) (c : DynamicChange) : Type 0 where
  pub object : IsNewObject objects c.id c.name
  pub lag : IsLag c.lag
  pub some_column : 0 < length c.columns
  pub few_columns : length c.columns ≤ bound limits.Columns
  pub column_names : AllByRecursion (λ column. IsStoredName column.name) c.columns
  pub query : Binds objects c.query c.columns

-- a moment doesn't fall
pub record TakesState (d : Dynamic) (s : DynamicState) : Type 0 where
  pub lag : IsLag s.lag
  pub failures : s.failures ≤ most_failed_refreshes
  pub moment : d.state.moment ≤ s.moment

abbrev pub DynamicStateApplies : Option StoredObject → DynamicState → Type 0
DynamicStateApplies found s =
    IsSomeAnd found (λ o. IsTrue o.is_live × IsSomeAnd (dynamic_in o.kind) (λ d. TakesState d s))

-- a group is removed only where one stands
abbrev pub MaySet : Groups → GroupEntry → Type 0
MaySet groups e = e.group ≡ None → IsSomeAnd (get groups e.key) (λ s. Unit {0})

-- with the keys and calls of the table's query
pub record TakesGroups (c : GroupsChange) (k : Kept) : Type 0 where
  pub keys : c.keys ≡ k.keys
  pub calls : c.calls ≡ k.calls
  pub entries : AllByRecursion (MaySet k.groups) c.entries

abbrev pub GroupsApply : Option StoredObject → GroupsChange → Type 0
GroupsApply found c = IsSomeAnd found (λ o. IsTrue o.is_live
    × IsSomeAnd (dynamic_in o.kind) (λ d. IsSomeAnd d.kept (TakesGroups c)))

-- ---- drops

abbrev pub MayGo : List StoredObject → ℕ → Type 0
MayGo objects id = IsLiveObject (at_id objects id) × IfSome (task_at objects id) (TaskMayGo objects id)

abbrev pub ChangeApplies : List StoredObject → Change → Type 0
ChangeApplies objects (CreatesTable c) = TableApplies objects c
ChangeApplies objects (Drops id) = MayGo objects id
ChangeApplies objects (PushesVersion c) = FitsObject (at_id objects c.id) c
ChangeApplies objects (CreatesStream c) = StreamApplies objects c
ChangeApplies objects (SetsOffset id offset) = OffsetApplies (at_id objects id) offset
ChangeApplies objects (CreatesTask c) = TaskApplies objects c
ChangeApplies objects (SetsTask id state) = StateApplies (at_id objects id) state
ChangeApplies objects (StartsRun root tasks) = RunApplies objects root tasks
ChangeApplies objects (FinishesTask root task ending) = EndApplies (at_id objects root) task
ChangeApplies objects (CreatesDynamic c) = DynamicApplies objects c
ChangeApplies objects (SetsDynamic id state) = DynamicStateApplies (at_id objects id) state
ChangeApplies objects (SetsGroups id c) = GroupsApply (at_id objects id) c

-- each change applies to what those before it leave
abbrev pub AllApply : ℕ → List StoredObject → List Change → Type 0
AllApply stamp objects [] = Unit {0}
AllApply stamp objects (c ∷ cs) = ChangeApplies objects c × AllApply stamp (changed stamp objects c) cs

-- ---- versions and groups

-- the id of the table whose groups a change sets
abbrev pub groups_set : Change → Option ℕ
groups_set (SetsGroups id c) = Some id
groups_set _ = None

abbrev pub is_kept_at : List StoredObject → ℕ → Bool
is_kept_at objects id = option_map_or (λ d. is_some d.kept) (dynamic_at objects id) false

-- those of which table are to be set next: of one that is kept, right behind its version
abbrev pub groups_due : List StoredObject → Change → Option ℕ
groups_due objects (PushesVersion c) = if is_kept_at objects c.id then Some c.id else None
groups_due objects _ = None

-- groups are set where they are due, and nowhere else
abbrev pub GroupsFollow : ℕ → List StoredObject → Option ℕ → List Change → Type 0
GroupsFollow stamp objects due [] = due ≡ None
GroupsFollow stamp objects due (c ∷ cs) =
    (groups_set c ≡ due) × GroupsFollow stamp (changed stamp objects c) (groups_due objects c) cs

pub record Applies (s : Stored) (c : Commit) : Type 0 where
  pub later : s.last < c.stamp
  pub within : c.stamp < bound limits.Stamp
  pub changes : AllApply c.stamp s.objects c.changes
  pub groups : GroupsFollow c.stamp s.objects None c.changes

-- the commits apply one after the other, and leave that
abbrev pub Leads : Stored → List Commit → Stored → Type 0
Leads old [] new = old ≡ new
Leads old (c ∷ cs) new = Applies old c × Leads (applied old c) cs new
