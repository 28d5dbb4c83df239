-- What statements about objects stand for, worked by hand over the objects of wh_naming's Written and two more tasks.
--     every statement      reads_and_changes, creations, tasks, dynamic_tables, drops, transactions
--     created names        created_names, or_replace
--     order of tests       unknown_before_taken, taken_before_wrong, wrong_before_columns, columns_before_types
--     new columns          columns_of_tables, columns_of_queries
--     kinds                each_its_own_kind, roots, tasks_of_one_root, sources_of_dynamic_tables
use Rattle.std.specs.Prelude.{◌≡◌, refl, ℕ, true, false, List, [], ◌∷◌, ◌++◌, Option, Some, None, codes, pos, map}
use Rattle.std.proofs.Common.{ap, ◌∙◌}
use Rattle.std.specs.Fmt.{digits}
use Rattle.wh_value.specs.Value as value
use Rattle.wh_value.specs.Column.{VarcharType, NumberType}
use Rattle.wh_value.specs.declared.column.Column as stored
use Rattle.wh_value.specs.declared.column.ColumnType.TheVariants as types
use Rattle.wh_ast.specs.declared.dml.Dml.{Dml}
use Rattle.wh_ast.specs.declared.dml.Dml.TheVariants as dml
use Rattle.wh_ast.specs.declared.statement.Statement.{Statement}
use Rattle.wh_ast.specs.declared.statement.Statement.TheVariants as written
use Rattle.wh_ast.specs.declared.statement.CreateTask.{CreateTask}
use Rattle.wh_ast.specs.declared.statement.CreateDynamicTable.{CreateDynamicTable}
use Rattle.wh_ast.specs.declared.statement.Lag.TheVariants as lags
use Rattle.wh_ast.specs.declared.statement.RefreshMode.TheVariants as modes
use Rattle.wh_ast.specs.declared.statement.Initialize.TheVariants as starts
use Rattle.wh_meaning.specs.Scalar.{Const}
use Rattle.wh_meaning.specs.Query.{Scan, Project}
use Rattle.wh_naming.specs.Findings as naming
use Rattle.wh_naming.specs.Findings.{Name, Failing, UnknownName, WrongKind, NameTaken, TypeMismatch}
use Rattle.wh_naming.specs.Scope.{Named, TaskObject, column_at}
use Rattle.wh_naming.specs.Typing.{step}
use Rattle.wh_naming.specs.Select.{QueryReading, ordered, bound_select, source_step, core_step, join_step, query_step}
use Rattle.wh_naming.specs.Changes.{bound_change}
use Rattle.wh_naming.proofs.Written.{WrittenQuery, k, v, name_a, name_b, name_d, name_n, name_q, name_s, name_t}
use Rattle.wh_naming.proofs.Written.{name_u, name_x, name_y, name_z, objects, number, truth, null, column, plus}
use Rattle.wh_naming.proofs.Written.{only, shown, shown_as, object, object_as, subquery, join}
use Rattle.wh_naming.proofs.Written.{core, query, select, layers}
use Rattle.wh_ddl_naming.specs.Meant.{Meant, within, first_failing}
use Rattle.wh_ddl_naming.specs.Objects.{Names}
use Rattle.wh_ddl_naming.specs.DynamicTables.{inside, over_query}
use Rattle.wh_ddl_naming.specs.Statements as bound
use Rattle.wh_ddl_naming.specs.Statements.{Bound, bound, selected}

-- the task A (4) is the root of B (7), and X (8) is another root
abbrev task : Name → ℕ → Named
task name id = record { name = name; id = id; kind = TaskObject; columns = [] }

abbrev names : Names
names = record { objects = objects ++ task name_b 7 ∷ task name_x 8 ∷ []; roots = (record { task = 7; root = 4 }) ∷ [] }

-- a statement with what it stands for by its query's parts
pub record WrittenStatement : Type 0 where
  pub tree : Statement
  pub meant : Meant Bound
  pub is : bound names tree ≡ meant

-- what is read of one over the objects
pub record Has (A : Type 0) (of : Meant Bound → A) (s : WrittenStatement) (x : A) : Type 0 where
  pub is_so : of (bound names s.tree) ≡ x

read : {A : Type 0} {of : Meant Bound → A} {s : WrittenStatement} {x : A} → of s.meant ≡ x → Has A of s x
read {of = of} {s = s} e = record { is_so = ap of s.is ∙ e }

-- what is answered: None where nothing is found wrong
abbrev answer : Meant Bound → Option Failing
answer m = first_failing m

abbrev Passes : WrittenStatement → Type 0
Passes s = Has (Option Failing) answer s None

abbrev IsUnknown : Name → WrittenStatement → Type 0
IsUnknown name s = Has (Option Failing) answer s (Some (UnknownName name))

abbrev IsWrong : Name → WrittenStatement → Type 0
IsWrong name s = Has (Option Failing) answer s (Some (WrongKind name))

abbrev IsTaken : Name → WrittenStatement → Type 0
IsTaken name s = Has (Option Failing) answer s (Some (NameTaken name))

abbrev IsMistyped : WrittenStatement → Type 0
IsMistyped s = Has (Option Failing) answer s (Some TypeMismatch)

abbrev Means : WrittenStatement → Bound → Type 0
Means s meant = Has Bound (λ m. m.value) s meant

-- ---- statements

abbrev plain : Statement → WrittenStatement
plain tree = record { tree = tree; meant = bound names tree; is = refl }

abbrev number_column : Name → stored.Column
number_column name = record { name = name; column_type = types.Number }

abbrev number_columns : List Name → List stored.Column
number_columns listed = map number_column listed

-- CREATE TABLE name (columns), without and with OR REPLACE
abbrev create : Name → List Name → WrittenStatement
create name listed = plain
    (written.CreateTable (record { replace = false; name = name; columns = number_columns listed; retention = Some 3 }))

abbrev replace : Name → List Name → WrittenStatement
replace name listed = plain
    (written.CreateTable (record { replace = true; name = name; columns = number_columns listed; retention = None }))

abbrev stream : Name → Name → WrittenStatement
stream name table = plain (written.CreateStream name table true)

-- CREATE TASK name AFTER names AS DELETE FROM N
abbrev body : Dml
body = dml.Delete name_n None

abbrev task_of : Name → List Name → CreateTask
task_of name after = record { name = name; minutes = None; after = after; when = None; body = body; body_text = name_y }

abbrev create_task : Name → List Name → WrittenStatement
create_task name after = plain (written.CreateTask (task_of name after))

-- CREATE DYNAMIC TABLE name TARGET_LAG = '60 seconds' AS query
abbrev defined : Name → WrittenQuery → CreateDynamicTable
defined name q = record {
  name = name;
  lag = lags.Seconds 60;
  mode = modes.Auto;
  initialize = starts.OnCreate;
  query = q.tree;
  query_text = name_y;
}

pub of_defined : (name : Name) (q : WrittenQuery) → bound names (written.CreateDynamicTable (defined name q))
    ≡ within bound.CreateDynamicTable (over_query names (defined name q) (q.reading (map inside names.objects) 0))
unfolding bound
of_defined name q = ap (λ (r : QueryReading). within bound.CreateDynamicTable
    (over_query names (defined name q) (r (map inside names.objects) 0))) q.is

abbrev dynamic : Name → WrittenQuery → WrittenStatement
dynamic name q = record {
  tree = written.CreateDynamicTable (defined name q);
  meant = within bound.CreateDynamicTable (over_query names (defined name q) (q.reading (map inside names.objects) 0));
  is = of_defined name q;
}

-- the dynamic table Z
abbrev over : WrittenQuery → WrittenStatement
over q = dynamic name_z q

pub of_selected : (q : WrittenQuery)
    → bound names (written.Select q.tree []) ≡ selected (ordered (q.reading names.objects 0) [])
unfolding bound bound_select
of_selected q = ap (λ (r : QueryReading). selected (ordered (r names.objects 0) [])) q.is

abbrev selecting : WrittenQuery → WrittenStatement
selecting q = record {
  tree = written.Select q.tree [];
  meant = selected (ordered (q.reading names.objects 0) []);
  is = of_selected q;
}

abbrev metadata : Name
metadata = codes "METADATA$A"

-- ---- every statement

-- `SELECT K FROM S`, SYSTEM$STREAM_HAS_DATA('S'), and `DELETE FROM T`
pub reads_and_changes : Passes (selecting (select (only (column k)) (object name_s)))
    × Means (plain (written.HasData name_s)) (bound.HasData 5)
    × Means (plain (written.Dml (dml.Delete name_t None)))
    (bound.Change (bound_change names.objects (dml.Delete name_t None)))
unfolding bound naming.first_failing source_step core_step query_step step column_at
reads_and_changes = (read (simp layers), read refl, read refl)

-- `CREATE TABLE Z(K, V)`, `CREATE STREAM Z ON TABLE T`, and `CREATE TASK Z AFTER A, B, A`
pub creations : Means (create name_z (k ∷ v ∷ [])) (bound.CreateTable (record {
  name = name_z;
  replaced = None;
  columns = (record { name = k; column_type = NumberType }) ∷ (record { name = v; column_type = NumberType }) ∷ [];
  retention = Some 3;
}))
    × Means (stream name_z name_t) (bound.CreateStream (record { name = name_z; table = 1; is_append_only = true }))
    × Means (create_task name_z (name_a ∷ name_b ∷ name_a ∷ [])) (bound.CreateTask (record {
      name = name_z;
      minutes = None;
      after = 4 ∷ 7 ∷ 4 ∷ [];
      when = None;
      body = body;
      body_text = name_y;
    }))
unfolding bound
creations = (read refl, read refl, read refl)

pub tasks : Means (plain (written.ResumeTask name_b)) (bound.ResumeTask 7)
    × Means (plain (written.SuspendTask name_b)) (bound.SuspendTask 7)
    × Means (plain (written.ExecuteTask name_a)) (bound.ExecuteTask 4)
unfolding bound
tasks = (read refl, read refl, read refl)

-- `SELECT 1, NULL AS X FROM D`: a column that is NULL in every core is VARCHAR
pub dynamic_tables : Means
    (over (query (core (shown (number 1) ∷ shown_as null name_x ∷ []) (object name_d) [] None [] ∷ [])))
    (bound.CreateDynamicTable (record {
      name = name_z;
      lag = lags.Seconds 60;
      mode = modes.Auto;
      initialize = starts.OnCreate;
      tree = (query (core (shown (number 1) ∷ shown_as null name_x ∷ []) (object name_d) [] None [] ∷ [])).tree;
      query = Project (Scan 0) (Const (value.Number (pos 1)) ∷ Const value.Null ∷ []);
      columns = (record { name = codes "COL1"; column_type = NumberType })
          ∷ (record { name = name_x; column_type = VarcharType }) ∷ [];
      sources = 6 ∷ [];
      is_wide = false;
      query_text = name_y;
    }))
    × Means (plain (written.ResumeDynamicTable name_d)) (bound.ResumeDynamicTable 6)
    × Means (plain (written.SuspendDynamicTable name_d)) (bound.SuspendDynamicTable 6)
    × Means (plain (written.RefreshDynamicTable name_d)) (bound.RefreshDynamicTable 6)
    × Means (plain (written.SetTargetLag name_d lags.Downstream)) (bound.SetTargetLag 6 lags.Downstream)
unfolding bound source_step core_step query_step step column_at digits
dynamic_tables = (read (simp layers), read refl, read refl, read refl, read refl)

pub drops : Means (plain (written.DropTable name_u)) (bound.DropTable 2)
    × Means (plain (written.DropStream name_s)) (bound.DropStream 5)
    × Means (plain (written.DropTask name_a)) (bound.DropTask 4)
    × Means (plain (written.DropDynamicTable name_d)) (bound.DropDynamicTable 6)
unfolding bound
drops = (read refl, read refl, read refl, read refl)

pub transactions : Passes (plain written.Begin) × Passes (plain written.Commit) × Passes (plain written.Rollback)
unfolding bound naming.first_failing
transactions = (read refl, read refl, read refl)

-- ---- created names

-- the name of a table, a stream, a task, and a dynamic table; and a free one
pub created_names : IsTaken name_t (create name_t (k ∷ []))
    × IsTaken name_s (stream name_s name_t)
    × IsTaken name_a (create_task name_a [])
    × IsTaken name_d (dynamic name_d (select (only (column k)) (object name_t)))
    × Passes (create name_z (k ∷ []))
    × Passes (create_task name_z [])
unfolding bound naming.first_failing source_step core_step query_step step column_at
created_names = (read refl, read refl, read refl, read (simp layers), read refl, read refl)

-- over a table, over nothing, and over a stream and a dynamic table
pub or_replace : Means (replace name_u (k ∷ [])) (bound.CreateTable (record {
  name = name_u;
  replaced = Some 2;
  columns = (record { name = k; column_type = NumberType }) ∷ [];
  retention = None;
}))
    × Passes (replace name_u (k ∷ [])) × Passes (replace name_z (k ∷ []))
    × IsWrong name_s (replace name_s (k ∷ [])) × IsWrong name_d (replace name_d (k ∷ []))
unfolding bound naming.first_failing
or_replace = (read refl, read refl, read refl, read refl, read refl)

-- ---- order of tests

-- stream T on N, task T after A and N, and dynamic table T over N
pub unknown_before_taken : IsUnknown name_n (stream name_t name_n)
    × IsUnknown name_n (create_task name_t (name_a ∷ name_n ∷ []))
    × IsUnknown name_n (dynamic name_t (select (only (column k)) (object name_n)))
    × IsUnknown name_z (dynamic name_z (select (only (column k)) (object name_z)))
unfolding bound naming.first_failing source_step core_step query_step step column_at
unknown_before_taken = (read refl, read refl, read (simp layers), read (simp layers))

-- stream T on D, task T after D, dynamic table T over S, and table T(K, K)
pub taken_before_wrong : IsTaken name_t (stream name_t name_d)
    × IsTaken name_t (create_task name_t (name_d ∷ []))
    × IsTaken name_t (dynamic name_t (select (only (column k)) (object name_s)))
    × IsTaken name_t (create name_t (k ∷ k ∷ []))
unfolding bound naming.first_failing source_step core_step query_step step column_at
taken_before_wrong = (read refl, read refl, read (simp layers), read refl)

-- OR REPLACE of D(K, K), `SELECT K AS X, Z AS X FROM S`, and `SELECT K, Z FROM T` of two columns K
pub wrong_before_columns : IsWrong name_d (replace name_d (k ∷ k ∷ []))
    × IsWrong name_s (over (select (shown_as (column k) name_x ∷ shown_as (column name_z) name_x ∷ []) (object name_s)))
    × IsUnknown name_y
    (over (select (shown (column k) ∷ shown (column k) ∷ shown (column name_y) ∷ []) (object name_t)))
    × IsUnknown name_y
    (over (select (shown (column name_y) ∷ shown (column k) ∷ shown (column k) ∷ []) (object name_t)))
unfolding bound naming.first_failing source_step core_step query_step step column_at
wrong_before_columns = (read refl, read (simp layers), read (simp layers), read (simp layers))

-- K and a sum of a number and a truth value, in both orders
pub columns_before_types : IsTaken k
    (over (select (shown (column k) ∷ shown_as (plus (number 1) truth) k ∷ []) (object name_t)))
    × IsTaken k (over (select (shown_as (plus (number 1) truth) k ∷ shown (column k) ∷ []) (object name_t)))
    × IsMistyped (over (select (only (plus (number 1) truth)) (object name_t)))
unfolding bound naming.first_failing source_step core_step query_step step column_at digits
columns_before_types = (read (simp layers), read (simp layers), read (simp layers))

-- ---- new columns

-- the first of those that come twice, or that are kept; an object's own name may begin so
pub columns_of_tables : IsTaken k (create name_z (k ∷ v ∷ v ∷ k ∷ []))
    × IsTaken k (create name_z (k ∷ metadata ∷ k ∷ []))
    × IsTaken metadata (create name_z (k ∷ metadata ∷ v ∷ v ∷ []))
    × Passes (create metadata (codes "metadata$k" ∷ k ∷ []))
unfolding bound naming.first_failing
columns_of_tables = (read refl, read refl, read refl, read refl)

-- `1 AS X, 2 AS X FROM T JOIN T`, `1 AS X FROM T JOIN T`, a name that is kept, and in a subquery alone
pub columns_of_queries : IsTaken name_x
    (over (query (core (shown_as (number 1) name_x ∷ shown_as (number 2) name_x ∷ [])
    (object name_t) (join (object name_t) truth ∷ []) None [] ∷ [])))
    × IsTaken name_t
    (over (query (core (shown_as (number 1) name_x ∷ []) (object name_t) (join (object name_t) truth ∷ [])
    None [] ∷ [])))
    × IsTaken metadata (over (select (shown_as (number 1) metadata ∷ []) (object name_t)))
    × Passes (over (select (shown_as (number 1) name_x ∷ [])
    (subquery (select (shown_as (column k) metadata ∷ shown_as (column k) metadata ∷ []) (object name_t)) name_q)))
unfolding bound naming.first_failing source_step core_step query_step join_step step column_at
columns_of_queries = (read (simp layers), read (simp layers), read (simp layers), read (simp layers))

-- ---- kinds

pub each_its_own_kind : IsWrong name_d (plain (written.DropTable name_d))
    × IsWrong name_t (plain (written.DropStream name_t))
    × IsWrong name_s (plain (written.DropTask name_s))
    × IsWrong name_t (plain (written.DropDynamicTable name_t))
    × IsWrong name_d (plain (written.ResumeTask name_d))
    × IsWrong name_a (plain (written.SuspendDynamicTable name_a))
    × IsWrong name_t (plain (written.HasData name_t))
    × IsWrong name_s (stream name_z name_s)
    × IsUnknown name_n (plain (written.DropTable name_n))
    × IsUnknown name_n (plain (written.HasData name_n))
unfolding bound naming.first_failing
each_its_own_kind =
    (read refl, read refl, read refl, read refl, read refl, read refl, read refl, read refl, read refl, read refl)

-- A and X are roots, B is none, and T is no task
pub roots : Passes (plain (written.ExecuteTask name_a)) × Passes (plain (written.ExecuteTask name_x))
    × IsWrong name_b (plain (written.ExecuteTask name_b)) × IsWrong name_t (plain (written.ExecuteTask name_t))
    × IsUnknown name_n (plain (written.ExecuteTask name_n))
unfolding bound naming.first_failing
roots = (read refl, read refl, read refl, read refl, read refl)

-- after B, A, B; B, X; X, B; T, X; and two that fail a test each, in both orders
pub tasks_of_one_root : Passes (create_task name_z (name_b ∷ name_a ∷ name_b ∷ []))
    × IsWrong name_x (create_task name_z (name_b ∷ name_x ∷ []))
    × IsWrong name_b (create_task name_z (name_x ∷ name_b ∷ []))
    × IsWrong name_t (create_task name_z (name_t ∷ name_x ∷ []))
    × IsUnknown name_n (create_task name_z (name_n ∷ name_t ∷ []))
    × IsUnknown name_n (create_task name_z (name_t ∷ name_n ∷ []))
unfolding bound naming.first_failing
tasks_of_one_root = (read refl, read refl, read refl, read refl, read refl, read refl)

-- a stream, a stream in parentheses, and a task behind a stream; a table, and a dynamic table
pub sources_of_dynamic_tables : IsWrong name_s (over (select (only (column k)) (object name_s)))
    × IsWrong name_s
    (over (select (only (column k)) (subquery (select (only (column k)) (object_as name_s name_x)) name_q)))
    × IsWrong name_s
    (over (query (core (only (number 1)) (object name_s) (join (object name_a) truth ∷ []) None [] ∷ [])))
    × IsWrong name_a
    (over (query (core (only (number 1)) (object name_a) (join (object name_s) truth ∷ []) None [] ∷ [])))
    × Passes (over (select (only (column k)) (object name_t)))
    × Passes (over (select (only (column k)) (object name_d)))
unfolding bound naming.first_failing source_step core_step query_step join_step step column_at
sources_of_dynamic_tables = (
  read (simp layers),
  read (simp layers),
  read (simp layers),
  read (simp layers),
  read (simp layers),
  read (simp layers),
)
