-- Objects in the places of a statement.
--     Names          the live objects, and the roots of tasks
--     root_of        the root of a task's graph
--     of_kind, is_root, is_task_of    what a place takes
--     found_where    the object of a name, where its place takes it
--     taken_name     a created name that is a live object's
use Rattle.std.specs.Prelude.{ℕ, Bool, true, false, not, ◌&&◌, if◌then◌else◌, List, [], ◌∷◌, Option, Some, None}
use Rattle.std.specs.Prelude.{is_some, nat_eq}
use Rattle.wh_naming.specs.Findings.{Name, unknown_object, wrong_kind_if, name_if}
use Rattle.wh_naming.specs.Scope.{ObjectKind, TableObject, StreamObject, TaskObject, DynamicTableObject, Named, named}
use Rattle.wh_ddl_naming.specs.Meant.{Meant}

-- the root of a task's graph, by their ids
pub record TaskRoot : Type 0 where
  pub task : ℕ
  pub root : ℕ

-- a task that isn't listed is a root
pub record Names : Type 0 where
  pub objects : List Named
  pub roots : List TaskRoot

abbrev pub root_of : List TaskRoot → ℕ → ℕ
root_of [] task = task
root_of (r ∷ rs) task = if nat_eq r.task task then r.root else root_of rs task

abbrev pub is_same_kind : ObjectKind → ObjectKind → Bool
is_same_kind TableObject TableObject = true
is_same_kind StreamObject StreamObject = true
is_same_kind TaskObject TaskObject = true
is_same_kind DynamicTableObject DynamicTableObject = true
is_same_kind _ _ = false

abbrev pub of_kind : ObjectKind → Named → Bool
of_kind kind object = is_same_kind object.kind kind

abbrev pub is_task_of : List TaskRoot → ℕ → Named → Bool
is_task_of roots root object = of_kind TaskObject object && nat_eq (root_of roots object.id) root

abbrev pub is_root : List TaskRoot → Named → Bool
is_root roots object = is_task_of roots object.id object

-- the object's id; 0 where there is none
abbrev pub found_where : (Named → Bool) → Name → Option Named → Meant ℕ
found_where takes name None = record { value = 0; taken_object = None; findings = unknown_object name }
found_where takes name (Some object) =
    record { value = object.id; taken_object = None; findings = wrong_kind_if (not (takes object)) name }

abbrev pub object_of : ObjectKind → Names → Name → Meant ℕ
object_of kind names name = found_where (of_kind kind) name (named names.objects name)

abbrev pub taken_name : Names → Name → Option Name
taken_name names name = name_if (is_some (named names.objects name)) name
