-- What the commits of the code stand for. Contracts see of an added partition the machine's, with its rows or without.
--     commit_of           the commit of the machine
--     text_commit_of      and what bytes give of one
--     written_of          a change as its bytes give it
--     written_with        and one of which a version may be seen in any way
--     HasRow, HasRows     rows that may be written, which the code's types leave open
use Rattle.std.specs.Prelude.{◌≡◌, ℕ, length, map}
use Rattle.std.specs.List.{AllByRecursion}
use Rattle.wh_value.specs.Value.{Row, IsRow}
use Rattle.wh_value.specs.View.{column_of}
use Rattle.wh_frame.specs.Partition.{Partition}
use Rattle.wh_state.specs.Commit as machine
use Rattle.wh_record.specs.declared.commit.TableChange.{TableChange}
use Rattle.wh_record.specs.declared.commit.VersionChangeIn.{VersionChangeIn}
use Rattle.wh_record.specs.declared.commit.StreamChange.{StreamChange}
use Rattle.wh_record.specs.declared.commit.TaskTexts.{TaskTexts}
use Rattle.wh_record.specs.declared.commit.TaskChangeIn.{TaskChangeIn}
use Rattle.wh_record.specs.declared.commit.DynamicTexts.{DynamicTexts}
use Rattle.wh_record.specs.declared.commit.DynamicChangeIn.{DynamicChangeIn}
use Rattle.wh_record.specs.declared.commit.ChangeIn.{ChangeIn}
use Rattle.wh_record.specs.declared.commit.ChangeIn.TheVariants.{CreatesTable, Drops, PushesVersion}
use Rattle.wh_record.specs.declared.commit.ChangeIn.TheVariants.{CreatesStream, SetsOffset}
use Rattle.wh_record.specs.declared.commit.ChangeIn.TheVariants.{CreatesTask, SetsTask, StartsRun, FinishesTask}
use Rattle.wh_record.specs.declared.commit.ChangeIn.TheVariants.{CreatesDynamic, SetsDynamic, SetsGroups}
use Rattle.wh_record.specs.declared.commit.CommitIn.{CommitIn}
use Rattle.wh_state.specs.Task as state
use Rattle.wh_state.specs.Dynamic as dynamics
use Rattle.wh_task.specs.declared.task.TaskBody.{TaskBody}
use Rattle.wh_task.specs.View.{state_of, ending_of, body_of}
use Rattle.wh_dynamic.specs.declared.query.DynamicQuery.{DynamicQuery}
use Rattle.wh_dynamic.specs.View.{source_of, query_of, groups_change_of}
use Rattle.wh_dynamic.specs.View as dynamic_tables

abbrev pub table_change_of : TableChange → machine.TableChange
table_change_of c =
    record { id = c.id; name = c.name; retention = c.retention; columns = map column_of c.columns.items }

abbrev pub version_change_of : VersionChangeIn Partition → machine.VersionChange
version_change_of c = record {
  id = c.id;
  data_timestamp = c.data_timestamp;
  next_row = c.next_row;
  width = c.width;
  removed = c.removed.items;
  added = c.added.items;
}

abbrev pub stream_change_of : StreamChange → machine.StreamChange
stream_change_of c = record {
  id = c.id;
  name = c.name;
  source = c.source;
  is_append_only = c.is_append_only;
  offset = c.offset;
}

-- ---- what is told of statements by their texts, and with what they mean

abbrev pub texts_in : TaskTexts → state.TaskTexts
texts_in t = record { when = t.when; body = t.body }

abbrev pub task_in : {R : Type 0} {form : machine.Form} → (R → machine.TaskPart form) → TaskChangeIn R
    → machine.TaskChangeIn form
task_in runs_of c =
    record { id = c.id; name = c.name; minutes = c.minutes; after = c.after.items; runs = runs_of c.runs }

abbrev pub query_texts_in : DynamicTexts → dynamics.DynamicTexts
query_texts_in t = record { text = t.text; sources = map source_of t.sources.items }

abbrev pub dynamic_in : {Q : Type 0} {form : machine.Form} → (Q → machine.DynamicPart form) → DynamicChangeIn Q
    → machine.DynamicChangeIn form
dynamic_in query_by c = record {
  id = c.id;
  name = c.name;
  lag = c.lag;
  is_incremental = c.is_incremental;
  query = query_by c.query;
  columns = map column_of c.columns.items;
}

abbrev pub change_with : {R Q P : Type 0} {form : machine.Form} → (VersionChangeIn P → machine.VersionChange)
    → (R → machine.TaskPart form) → (Q → machine.DynamicPart form) → ChangeIn R Q P
    → machine.ChangeIn form
change_with version_by runs_of query_by (CreatesTable c) = machine.CreatesTable (table_change_of c)
change_with version_by runs_of query_by (Drops id) = machine.Drops id
change_with version_by runs_of query_by (PushesVersion c) = machine.PushesVersion (version_by c)
change_with version_by runs_of query_by (CreatesStream c) = machine.CreatesStream (stream_change_of c)
change_with version_by runs_of query_by (SetsOffset id offset) = machine.SetsOffset id offset
change_with version_by runs_of query_by (CreatesTask c) = machine.CreatesTask (task_in runs_of c)
change_with version_by runs_of query_by (SetsTask id state) = machine.SetsTask id (state_of state)
change_with version_by runs_of query_by (StartsRun root tasks) = machine.StartsRun root tasks.items
change_with version_by runs_of query_by (FinishesTask root task ending) =
    machine.FinishesTask root task (ending_of ending)
change_with version_by runs_of query_by (CreatesDynamic c) = machine.CreatesDynamic (dynamic_in query_by c)
change_with version_by runs_of query_by (SetsDynamic id state) = machine.SetsDynamic id (dynamic_tables.state_of state)
change_with version_by runs_of query_by (SetsGroups id groups) = machine.SetsGroups id (groups_change_of groups)

abbrev pub change_in : {R Q : Type 0} {form : machine.Form} → (R → machine.TaskPart form)
    → (Q → machine.DynamicPart form) → ChangeIn R Q Partition
    → machine.ChangeIn form
change_in runs_of query_by c = change_with version_change_of runs_of query_by c

abbrev pub commit_in : {R Q : Type 0} {form : machine.Form} → (R → machine.TaskPart form)
    → (Q → machine.DynamicPart form) → CommitIn R Q Partition
    → machine.CommitIn form
commit_in runs_of query_by c = record { stamp = c.stamp; changes = map (change_in runs_of query_by) c.changes.items }

abbrev pub text_change_of : ChangeIn TaskTexts DynamicTexts Partition → machine.TextChange
text_change_of c = change_in texts_in query_texts_in c

abbrev pub text_commit_of : CommitIn TaskTexts DynamicTexts Partition → machine.TextCommit
text_commit_of c = commit_in texts_in query_texts_in c

abbrev pub task_change_of : TaskChangeIn TaskBody → machine.TaskChange
task_change_of c = task_in body_of c

abbrev pub dynamic_change_of : DynamicChangeIn DynamicQuery → machine.DynamicChange
dynamic_change_of c = dynamic_in query_of c

-- what is understood of a commit: with the rows that it adds or without, contracts see one type
abbrev pub UnderstoodChange : Type 0
UnderstoodChange = ChangeIn TaskBody DynamicQuery Partition

abbrev pub UnderstoodCommit : Type 0
UnderstoodCommit = CommitIn TaskBody DynamicQuery Partition

abbrev pub change_of : UnderstoodChange → machine.Change
change_of c = change_in body_of query_of c

abbrev pub written_of : UnderstoodChange → machine.TextChange
written_of c = machine.change_as_text (change_of c)

-- of whatever is told of a partition, where a new version is seen so
abbrev pub written_with : {P : Type 0} → (VersionChangeIn P → machine.VersionChange)
    → ChangeIn TaskBody DynamicQuery P → machine.TextChange
written_with version_by c = machine.change_as_text (change_with version_by body_of query_of c)

abbrev pub commit_of : UnderstoodCommit → machine.Commit
commit_of c = commit_in body_of query_of c

-- a row of a partition that is added has the width's number of values, and they are within the format
abbrev pub HasRow : ℕ → ℕ × Row → Type 0
HasRow width e = (length e.1 ≡ width) × IsRow e.1

abbrev pub HasRows : ℕ → Partition → Type 0
HasRows width p = AllByRecursion (HasRow width) p.rows
