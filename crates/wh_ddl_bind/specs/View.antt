-- What the types of the code stand for.
--     root_in, names_of           the root of a task, and what a statement may name
--     meant_id, found_in          an id with what is found wrong
--     predecessors_in             the same of a task's predecessors
--     new_table_of, new_stream_of, new_task_of, new_dynamic_table_of    objects to be made
--     select_of, change_of        a SELECT and a change with which nothing is found wrong
--     bound_of                    a bound statement
use Rattle.std.specs.Prelude.{ℕ, List, map, None}
use Rattle.wh_value.specs.View.{column_of}
use Rattle.wh_algebra.specs.View.{query_of}
use Rattle.wh_listing.specs.View.{keys_of}
use Rattle.wh_naming.specs.Findings as wrong
use Rattle.wh_naming.specs.Findings.{nothing_found}
use Rattle.wh_naming.specs.Select as selects
use Rattle.wh_naming.specs.Changes as changes
use Rattle.wh_naming.specs.View.{named_of}
use Rattle.wh_expr_bind.specs.View.{findings_of}
use Rattle.wh_bind.specs.declared.select.BoundSelect.{BoundSelect}
use Rattle.wh_bound_change.specs.View as dml
use Rattle.wh_bound_change.specs.declared.change.BoundChange.{BoundChange}
use Rattle.wh_ddl_naming.specs.Meant.{Meant}
use Rattle.wh_ddl_naming.specs.Objects as naming
use Rattle.wh_ddl_naming.specs.Tables as tables
use Rattle.wh_ddl_naming.specs.Streams as streams
use Rattle.wh_ddl_naming.specs.Tasks as tasks
use Rattle.wh_ddl_naming.specs.DynamicTables as dynamic_tables
use Rattle.wh_ddl_naming.specs.Statements as statements
use Rattle.wh_ddl_bind.specs.declared.names.TaskRoot.{TaskRoot}
use Rattle.wh_ddl_bind.specs.declared.names.Names.{Names}
use Rattle.wh_ddl_bind.specs.declared.objects.Found.{Found}
use Rattle.wh_ddl_bind.specs.declared.tasks.Predecessors.{Predecessors}
use Rattle.wh_ddl_bind.specs.declared.bound.NewTable.{NewTable}
use Rattle.wh_ddl_bind.specs.declared.bound.NewStream.{NewStream}
use Rattle.wh_ddl_bind.specs.declared.bound.NewTask.{NewTask}
use Rattle.wh_ddl_bind.specs.declared.bound.NewDynamicTable.{NewDynamicTable}
use Rattle.wh_ddl_bind.specs.declared.bound.Bound.{Bound}
use Rattle.wh_ddl_bind.specs.declared.bound.Bound.TheVariants as code

abbrev pub root_in : TaskRoot → naming.TaskRoot
root_in r = record { task = r.task; root = r.root }

abbrev pub names_of : Names → naming.Names
names_of n = record { objects = map named_of n.objects.now; roots = map root_in n.roots.now }

abbrev pub meant_id : ℕ → wrong.Findings → Meant ℕ
meant_id id findings = record { value = id; taken_object = None; findings = findings }

abbrev pub found_in : Found → Meant ℕ
found_in f = meant_id f.id (findings_of f.findings)

abbrev pub predecessors_in : Predecessors → Meant (List ℕ)
predecessors_in p = record { value = p.ids.items; taken_object = None; findings = findings_of p.findings }

abbrev pub new_table_of : NewTable → tables.NewTable
new_table_of t =
    record { name = t.name; replaced = t.replaced; columns = map column_of t.columns.items; retention = t.retention }

abbrev pub new_stream_of : NewStream → streams.NewStream
new_stream_of s = record { name = s.name; table = s.table; is_append_only = s.is_append_only }

abbrev pub new_task_of : NewTask → tasks.NewTask
new_task_of t = record {
  name = t.name;
  minutes = t.minutes;
  after = t.after.items;
  when = t.when;
  body = t.body;
  body_text = t.body_text;
}

abbrev pub new_dynamic_table_of : NewDynamicTable → dynamic_tables.NewDynamicTable
new_dynamic_table_of t = record {
  name = t.name;
  lag = t.lag;
  mode = t.mode;
  initialize = t.initialize;
  tree = t.tree;
  query = query_of t.query;
  columns = map column_of t.columns.items;
  sources = t.sources.items;
  is_wide = t.is_wide;
  query_text = t.query_text;
}

abbrev pub select_of : BoundSelect → selects.BoundSelect
select_of b = record {
  query = query_of b.query;
  names = b.names.items;
  sources = b.sources.items;
  keys = keys_of b.keys.items;
  findings = nothing_found;
  is_wide = b.is_wide;
}

abbrev pub change_of : BoundChange → changes.BoundChange
change_of b = record {
  target = b.target;
  change = dml.change_of b.change;
  sources = b.sources.items;
  findings = nothing_found;
  is_wide = b.is_wide;
}

abbrev pub bound_of : Bound → statements.Bound
bound_of (code.Select b) = statements.Select (select_of b)
bound_of (code.HasData id) = statements.HasData id
bound_of (code.Change b) = statements.Change (change_of b)
bound_of (code.CreateTable t) = statements.CreateTable (new_table_of t)
bound_of (code.CreateStream s) = statements.CreateStream (new_stream_of s)
bound_of (code.CreateTask t) = statements.CreateTask (new_task_of t)
bound_of (code.ResumeTask id) = statements.ResumeTask id
bound_of (code.SuspendTask id) = statements.SuspendTask id
bound_of (code.ExecuteTask id) = statements.ExecuteTask id
bound_of (code.CreateDynamicTable t) = statements.CreateDynamicTable (new_dynamic_table_of t)
bound_of (code.ResumeDynamicTable id) = statements.ResumeDynamicTable id
bound_of (code.SuspendDynamicTable id) = statements.SuspendDynamicTable id
bound_of (code.RefreshDynamicTable id) = statements.RefreshDynamicTable id
bound_of (code.SetTargetLag id lag) = statements.SetTargetLag id lag
bound_of (code.DropTable id) = statements.DropTable id
bound_of (code.DropStream id) = statements.DropStream id
bound_of (code.DropTask id) = statements.DropTask id
bound_of (code.DropDynamicTable id) = statements.DropDynamicTable id
bound_of code.Begin = statements.Begin
bound_of code.Commit = statements.Commit
bound_of code.Rollback = statements.Rollback
