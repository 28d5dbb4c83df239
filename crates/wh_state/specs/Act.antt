-- What commits change, in the machine's terms.
--     Act          a change of the state
--     acted        what an act does to the objects at a stamp; all_acted, what several do
--     done         the state after a commit of acts
use Rattle.std.specs.Prelude.{ℕ, ◌+◌, Bool, List, [], ◌∷◌, ◌++◌, length, Option}
use Rattle.wh_value.specs.Column.{Column}
use Rattle.wh_frame.specs.Partition.{Partition}
use Rattle.wh_state.specs.State.{State, Kind, TableKind, StreamKind, Object, Table, Contents, nothing_held, new_table}
use Rattle.wh_state.specs.State.{new_object, new_stream, with_offset, dropped, version_for, columns_at, on_table}
use Rattle.wh_state.specs.State.{TaskKind, DynamicKind, on_stream, on_task, on_dynamic, empty_table, last_content}
use Rattle.wh_state.specs.State.{last_partitions, changed_at}
use Rattle.wh_state.specs.Dynamic.{DynamicQuery, DynamicState, Dynamic, GroupsChange, new_dynamic, with_dynamic_state}
use Rattle.wh_state.specs.Dynamic.{with_groups}
use Rattle.wh_state.specs.Bound.{kept_for}
use Rattle.wh_state.specs.Task.{TaskBody, TaskState, Ending, Task, new_task, with_state, with_run, with_ended, root_by}
use Rattle.wh_state.specs.Objects.{task_at}
use Rattle.wh_state.specs.Edits.{Edits, partitions_made, contents_after}

pub data Act : Type 0 where
  -- a new table, with the next id
  MakesTable : (name : List ℕ) → (columns : List Column) → (retention : ℕ) → Act
  -- the object of that id is dropped
  DropsObject : (id : ℕ) → Act
  -- a new version of the table of that id
  EditsRows : (id : ℕ) → Edits → Act
  -- a new stream on the table of an id, with the next id; it shows what comes behind its commit
  MakesStream : (name : List ℕ) → (source : ℕ) → (is_append_only : Bool) → Act
  -- the stream of that id was read up to a stamp
  MovesOffset : (id offset : ℕ) → Act
  -- a new task behind those of some ids, with the next id
  MakesTask : (name : List ℕ) → (minutes : ℕ) → (after : List ℕ) → TaskBody → Act
  -- the state of the task of that id is another one
  PutsTask : (id : ℕ) → TaskState → Act
  -- a run of the root of that id begins, with these tasks
  BeginsRun : (root : ℕ) → (tasks : List ℕ) → Act
  -- a task of the run of the root of that id ended
  EndsTask : (root task : ℕ) → Ending → Act
  -- a new dynamic table, with the next id
  MakesDynamic : (name : List ℕ) → (lag : ℕ) → (is_incremental : Bool) → DynamicQuery → (columns : List Column) → Act
  -- the state of the dynamic table of that id is another one
  PutsDynamic : (id : ℕ) → DynamicState → Act
  -- a new version of the dynamic table of that id, whose rows stand for a moment, and what it does to its groups, where
  -- it is kept
  RefreshesRows : (id moment : ℕ) → Edits → Option GroupsChange → Act

-- ---- what an act does at a stamp

-- the partitions that edits make of a table's last version
abbrev pub table_partitions_made : Edits → Table → List Partition
table_partitions_made e t = partitions_made t.next_partition t.next_row e (last_partitions t)

abbrev pub next_contents : Edits → Table → Contents
next_contents e t = contents_after t.next_partition t.next_row e (last_content nothing_held t)

-- a table with its next version, whose rows stand for a moment
unfoldable pub edited_table : ℕ → ℕ → Edits → Table → Table
edited_table stamp moment e t = record t {
  next_row = t.next_row + length e.added;
  next_partition = t.next_partition + length (table_partitions_made e t);
  versions = t.versions ++ version_for stamp moment (next_contents e t) ∷ [];
}

abbrev pub edited_kind : ℕ → ℕ → Edits → Kind → Kind
edited_kind stamp moment e k = on_table (edited_table stamp moment e) k

abbrev pub edited_object : ℕ → ℕ → Edits → Object → Object
edited_object stamp moment e o = record o { kind = edited_kind stamp moment e o.kind }

abbrev pub moved_kind : ℕ → Kind → Kind
moved_kind offset k = on_stream (with_offset offset) k

abbrev pub moved_object : ℕ → Object → Object
moved_object offset o = record o { kind = moved_kind offset o.kind }

abbrev pub on_task_object : (Task → Task) → Object → Object
on_task_object f o = record o { kind = on_task f o.kind }

abbrev pub on_dynamic_object : (Dynamic → Dynamic) → Object → Object
on_dynamic_object f o = record o { kind = on_dynamic f o.kind }

abbrev pub refreshed_kind : ℕ → ℕ → Edits → Option GroupsChange → Kind → Kind
refreshed_kind stamp moment e c k = on_dynamic (with_groups c) (edited_kind stamp moment e k)

abbrev pub refreshed_object : ℕ → ℕ → Edits → Option GroupsChange → Object → Object
refreshed_object stamp moment e c o = record o { kind = refreshed_kind stamp moment e c o.kind }

-- with the id that it gets
abbrev pub task_made : List Object → ℕ → ℕ → List ℕ → TaskBody → Task
task_made objects id minutes after runs = new_task minutes after (root_by (task_at objects) id after) runs

abbrev pub acted : ℕ → List Object → Act → List Object
acted stamp objects (MakesTable name columns retention) =
    objects ++ new_object name (TableKind (new_table nothing_held columns retention stamp)) ∷ []
acted stamp objects (DropsObject id) = changed_at objects id dropped
acted stamp objects (EditsRows id e) = changed_at objects id (edited_object stamp stamp e)
acted stamp objects (MakesStream name source is_append_only) = objects ++ new_object name
    (StreamKind (new_stream source is_append_only stamp (columns_at objects source))) ∷ []
acted stamp objects (MovesOffset id offset) = changed_at objects id (moved_object offset)
acted stamp objects (MakesTask name minutes after runs) =
    objects ++ new_object name (TaskKind (task_made objects (length objects + 1) minutes after runs)) ∷ []
acted stamp objects (PutsTask id state) = changed_at objects id (on_task_object (with_state state))
acted stamp objects (BeginsRun root tasks) = changed_at objects root (on_task_object (with_run tasks))
acted stamp objects (EndsTask root task ending) = changed_at objects root (on_task_object (with_ended task ending))
acted stamp objects (MakesDynamic name lag is_incremental query columns) = objects ++ new_object name
    (DynamicKind (new_dynamic lag is_incremental (kept_for objects is_incremental query) query)
    (empty_table columns stamp)) ∷ []
acted stamp objects (PutsDynamic id state) = changed_at objects id (on_dynamic_object (with_dynamic_state state))
acted stamp objects (RefreshesRows id moment e c) = changed_at objects id (refreshed_object stamp moment e c)

abbrev pub all_acted : ℕ → List Object → List Act → List Object
all_acted stamp objects [] = objects
all_acted stamp objects (act ∷ acts) = all_acted stamp (acted stamp objects act) acts

-- a commit of acts at the state's last stamp
abbrev pub done : State → List Act → State
done s acts = record s { committed = s.last; objects = all_acted s.last s.objects acts }
