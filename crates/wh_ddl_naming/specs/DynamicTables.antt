-- CREATE DYNAMIC TABLE.
--     NewDynamicTable        the table, with its query over numbered sources
--     inside                 an object as a dynamic table's query sees it
--     bound_dynamic_table    of a statement as it is written
use Rattle.std.specs.Prelude.{ℕ, Bool, List, map}
use Rattle.wh_value.specs.Column.{Column}
use Rattle.wh_ast.specs.declared.statement.CreateDynamicTable.{CreateDynamicTable}
use Rattle.wh_ast.specs.declared.statement.Lag.{Lag}
use Rattle.wh_ast.specs.declared.statement.RefreshMode.{RefreshMode}
use Rattle.wh_ast.specs.declared.statement.Initialize.{Initialize}
use Rattle.wh_ast.specs.declared.query.Query as trees
use Rattle.wh_meaning.specs.Query.{Query}
use Rattle.wh_naming.specs.Findings.{Name, followed}
use Rattle.wh_naming.specs.Scope.{ObjectKind, TableObject, StreamObject, TaskObject, DynamicTableObject, Named}
use Rattle.wh_naming.specs.Select.{BoundQuery, bound_query, column_of}
use Rattle.wh_ddl_naming.specs.Meant.{Meant}
use Rattle.wh_ddl_naming.specs.Objects.{Names, taken_name}
use Rattle.wh_ddl_naming.specs.Tables.{column_names, column_findings}

-- its columns are the query's outputs, its sources their ids in the order of the text; wide where the query, or one in
-- it, has more columns than the limit
pub record NewDynamicTable : Type 0 where
  pub name : Name
  pub lag : Lag
  pub mode : RefreshMode
  pub initialize : Initialize
  -- as it is written
  pub tree : trees.Query
  pub query : Query
  pub columns : List Column
  pub sources : List ℕ
  pub is_wide : Bool
  pub query_text : Name

-- a stream is no source there, as a task is none anywhere
abbrev pub kind_inside : ObjectKind → ObjectKind
kind_inside TableObject = TableObject
kind_inside StreamObject = TaskObject
kind_inside TaskObject = TaskObject
kind_inside DynamicTableObject = DynamicTableObject

abbrev pub inside : Named → Named
inside object = record { name = object.name; id = object.id; kind = kind_inside object.kind; columns = object.columns }

abbrev pub new_dynamic_table : CreateDynamicTable → BoundQuery → NewDynamicTable
new_dynamic_table t q = record {
  name = t.name;
  lag = t.lag;
  mode = t.mode;
  initialize = t.initialize;
  tree = t.query;
  query = q.query;
  columns = map column_of q.outputs;
  sources = q.sources;
  is_wide = q.is_wide;
  query_text = t.query_text;
}

-- new columns stand in the items of the first core, before any entry of FROM
abbrev pub over_query : Names → CreateDynamicTable → BoundQuery → Meant NewDynamicTable
over_query names t q = record {
  value = new_dynamic_table t q;
  taken_object = taken_name names t.name;
  findings = followed (column_findings (column_names (map column_of q.outputs))) q.findings;
}

abbrev pub bound_dynamic_table : Names → CreateDynamicTable → Meant NewDynamicTable
bound_dynamic_table names t = over_query names t (bound_query t.query (map inside names.objects) 0)
