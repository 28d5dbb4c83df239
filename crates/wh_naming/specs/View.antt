-- What the types of the code stand for.
--     failing_of                    the first failing test
--     kind_of, named_of             the kind of an object, and an object that a statement may name
use Rattle.std.specs.Prelude.{map}
use Rattle.wh_value.specs.View.{column_of}
use Rattle.wh_naming.specs.Findings as wrong
use Rattle.wh_naming.specs.Scope as scope
use Rattle.wh_naming.specs.declared.failing.Failing.{Failing}
use Rattle.wh_naming.specs.declared.failing.Failing.TheVariants.{UnknownName, WrongKind, NameTaken, TypeMismatch}
use Rattle.wh_naming.specs.declared.object.ObjectKind.{ObjectKind}
use Rattle.wh_naming.specs.declared.object.ObjectKind.TheVariants.{Table, Stream, Task, DynamicTable}
use Rattle.wh_naming.specs.declared.object.Named.{Named}

abbrev pub failing_of : Failing → wrong.Failing
failing_of (UnknownName name) = wrong.UnknownName name
failing_of (WrongKind name) = wrong.WrongKind name
failing_of (NameTaken name) = wrong.NameTaken name
failing_of TypeMismatch = wrong.TypeMismatch

abbrev pub kind_of : ObjectKind → scope.ObjectKind
kind_of Table = scope.TableObject
kind_of Stream = scope.StreamObject
kind_of Task = scope.TaskObject
kind_of DynamicTable = scope.DynamicTableObject

abbrev pub named_of : Named → scope.Named
named_of n = record { name = n.name.now; id = n.id; kind = kind_of n.kind; columns = map column_of n.columns.now }
