-- What a statement may name, and what is found wrong with its names.
--     names_from, names_in     the live objects by their names, ids and columns
--     refusal_of               the refusal that a failing test comes to
--     naming_refusal           what is wrong with names and types, or the columns of queries
use Rattle.std.specs.Prelude.{ℕ, suc, Bool, if◌then◌else◌, List, [], ◌∷◌, ◌++◌, Option, Some, None, option_map}
use Rattle.wh_value.specs.declared.limit.Limit.TheVariants as limits
use Rattle.wh_naming.specs.Findings as naming
use Rattle.wh_naming.specs.Findings.{Findings, Failing, first_failing}
use Rattle.wh_naming.specs.Scope.{Named, ObjectKind, TableObject, StreamObject, TaskObject, DynamicTableObject}
use Rattle.wh_ddl_naming.specs.Objects.{Names, TaskRoot}
use Rattle.wh_reply.specs.Reply.{Refusal, UnknownName, NameTaken, WrongKind, TypeMismatch, OverLimit}
use Rattle.wh_state.specs.State.{Kind, TableKind, StreamKind, TaskKind, DynamicKind, Object, columns_in, task_in}
use Rattle.wh_machine.specs.Tests.{refused_if, first_of}
use Rattle.wh_state.specs.Task.{Task}

abbrev pub object_kind : Kind → ObjectKind
object_kind (TableKind t) = TableObject
object_kind (StreamKind s) = StreamObject
object_kind (TaskKind t) = TaskObject
object_kind (DynamicKind d t) = DynamicTableObject

abbrev pub named_object : ℕ → Object → Named
named_object id o = record { name = o.name; id = id; kind = object_kind o.kind; columns = columns_in o.kind }

abbrev pub names_from : ℕ → List Object → List Named
names_from id [] = []
names_from id (o ∷ os) = (if o.is_live then named_object id o ∷ [] else []) ++ names_from (suc id) os

abbrev pub root_told : ℕ → Option Task → List TaskRoot
root_told id None = []
root_told id (Some t) = record { task = id; root = t.root } ∷ []

abbrev pub roots_from : ℕ → List Object → List TaskRoot
roots_from id [] = []
roots_from id (o ∷ os) = (if o.is_live then root_told id (task_in o.kind) else []) ++ roots_from (suc id) os

abbrev pub names_in : List Object → Names
names_in objects = record { objects = names_from 1 objects; roots = roots_from 1 objects }

abbrev pub refusal_of : Failing → Refusal
refusal_of (naming.UnknownName name) = UnknownName name
refusal_of (naming.WrongKind name) = WrongKind name
refusal_of (naming.NameTaken name) = NameTaken name
refusal_of naming.TypeMismatch = TypeMismatch

-- what is found wrong with names and types, and then the columns of queries
abbrev pub naming_refusal : Findings → Bool → Option Refusal
naming_refusal findings is_wide =
    first_of (option_map refusal_of (first_failing findings) ∷ refused_if is_wide (OverLimit limits.Output) ∷ [])
