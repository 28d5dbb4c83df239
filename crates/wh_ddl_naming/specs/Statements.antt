-- What a statement stands for.
--     Bound    a statement with ids in place of objects' names, and with its queries and changes bound
--     bound    of a statement as it is written
use Rattle.std.specs.Prelude.{ℕ, None}
use Rattle.wh_ast.specs.declared.statement.Statement.{Statement}
use Rattle.wh_ast.specs.declared.statement.Statement.TheVariants as written
use Rattle.wh_ast.specs.declared.statement.Lag.{Lag}
use Rattle.wh_naming.specs.Findings.{nothing_found}
use Rattle.wh_naming.specs.Scope.{TableObject, StreamObject, TaskObject, DynamicTableObject}
use Rattle.wh_naming.specs.Select.{BoundSelect, bound_select}
use Rattle.wh_naming.specs.Changes.{BoundChange, bound_change}
use Rattle.wh_ddl_naming.specs.Meant.{Meant, within}
use Rattle.wh_ddl_naming.specs.Objects.{Names, object_of}
use Rattle.wh_ddl_naming.specs.Tables.{NewTable, bound_table}
use Rattle.wh_ddl_naming.specs.Streams.{NewStream, bound_stream}
use Rattle.wh_ddl_naming.specs.Tasks.{NewTask, bound_task, root_task}
use Rattle.wh_ddl_naming.specs.DynamicTables.{NewDynamicTable, bound_dynamic_table}

pub data Bound : Type 0 where
  Select : BoundSelect → Bound
  HasData : (stream : ℕ) → Bound
  Change : BoundChange → Bound
  CreateTable : NewTable → Bound
  CreateStream : NewStream → Bound
  CreateTask : NewTask → Bound
  ResumeTask : (task : ℕ) → Bound
  SuspendTask : (task : ℕ) → Bound
  ExecuteTask : (root : ℕ) → Bound
  CreateDynamicTable : NewDynamicTable → Bound
  ResumeDynamicTable : (table : ℕ) → Bound
  SuspendDynamicTable : (table : ℕ) → Bound
  RefreshDynamicTable : (table : ℕ) → Bound
  SetTargetLag : (table : ℕ) → Lag → Bound
  DropTable : (table : ℕ) → Bound
  DropStream : (stream : ℕ) → Bound
  DropTask : (task : ℕ) → Bound
  DropDynamicTable : (table : ℕ) → Bound
  Begin : Bound
  Commit : Bound
  Rollback : Bound

abbrev pub selected : BoundSelect → Meant Bound
selected s = record { value = Select s; taken_object = None; findings = s.findings }

abbrev pub changed : BoundChange → Meant Bound
changed c = record { value = Change c; taken_object = None; findings = c.findings }

-- a statement that names nothing
abbrev pub plain : Bound → Meant Bound
plain b = record { value = b; taken_object = None; findings = nothing_found }

unfoldable pub bound : Names → Statement → Meant Bound
bound names (written.Select q sorts) = selected (bound_select names.objects q sorts)
bound names (written.HasData stream) = within HasData (object_of StreamObject names stream)
bound names (written.Dml statement) = changed (bound_change names.objects statement)
bound names (written.CreateTable t) = within CreateTable (bound_table names t)
bound names (written.CreateStream name table is_append_only) =
    within CreateStream (bound_stream names name table is_append_only)
bound names (written.CreateTask t) = within CreateTask (bound_task names t)
bound names (written.ResumeTask task) = within ResumeTask (object_of TaskObject names task)
bound names (written.SuspendTask task) = within SuspendTask (object_of TaskObject names task)
bound names (written.ExecuteTask task) = within ExecuteTask (root_task names task)
bound names (written.CreateDynamicTable t) = within CreateDynamicTable (bound_dynamic_table names t)
bound names (written.ResumeDynamicTable table) = within ResumeDynamicTable (object_of DynamicTableObject names table)
bound names (written.SuspendDynamicTable table) = within SuspendDynamicTable (object_of DynamicTableObject names table)
bound names (written.RefreshDynamicTable table) = within RefreshDynamicTable (object_of DynamicTableObject names table)
bound names (written.SetTargetLag table lag) =
    within (λ id. SetTargetLag id lag) (object_of DynamicTableObject names table)
bound names (written.DropTable table) = within DropTable (object_of TableObject names table)
bound names (written.DropStream stream) = within DropStream (object_of StreamObject names stream)
bound names (written.DropTask task) = within DropTask (object_of TaskObject names task)
bound names (written.DropDynamicTable table) = within DropDynamicTable (object_of DynamicTableObject names table)
bound names written.Begin = plain Begin
bound names written.Commit = plain Commit
bound names written.Rollback = plain Rollback
