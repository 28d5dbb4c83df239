-- What the types of the code stand for.
--     findings_of                   what is found wrong
--     entry_of, entries_of          a FROM entry, and all of them
--     place_of, span_of             a column's place, and columns with the place of the first
--     type_of_option                a type, or that of NULL
--     typed_view                    what an expression stands for
--     part_in                       the same of a part that is handed on boxed
--     context_of                    what an expression sees
use Rattle.std.specs.Prelude.{Bool, List, map, Option, option_map}
use Rattle.wh_value.specs.Column as table
use Rattle.wh_value.specs.View.{type_of, column_of}
use Rattle.wh_value.specs.declared.column.ColumnType.{ColumnType}
use Rattle.wh_scalar.specs.View.{scalar_of}
use Rattle.wh_algebra.specs.View.{calls_of}
pub use Rattle.wh_naming.specs.View.{failing_of, kind_of, named_of}
use Rattle.wh_naming.specs.Findings as wrong
use Rattle.wh_naming.specs.Scope as scope
use Rattle.wh_naming.specs.Typing as typing
use Rattle.wh_expr_bind.specs.declared.findings.Findings.{Findings}
use Rattle.wh_expr_bind.specs.declared.columns.Place.{Place}
use Rattle.wh_expr_bind.specs.declared.entries.Entry.{Entry}
use Rattle.wh_expr_bind.specs.declared.entries.Span.{Span}
use Rattle.wh_expr_bind.specs.declared.parts.Typed.{Typed}

abbrev pub findings_of : Findings → wrong.Findings
findings_of f = record {
  unknown_object = f.unknown_object;
  wrong_kind = f.wrong_kind;
  unknown_column = f.unknown_column;
  taken = f.taken;
  is_mistyped = f.is_mistyped;
}

abbrev pub entry_of : Entry → scope.Entry
entry_of e = record { name = e.name; columns = map column_of e.columns.items }

abbrev pub entries_of : List Entry → List scope.Entry
entries_of es = map entry_of es

abbrev pub place_of : Place → scope.Place
place_of p = record { place = p.place; column_type = type_of p.column_type }

abbrev pub span_of : Span → scope.Span
span_of s = record { from = s.from; columns = map column_of s.columns.now }

abbrev pub type_of_option : Option ColumnType → Option table.ColumnType
type_of_option t = option_map type_of t

abbrev pub typed_view : Typed → typing.Typed
typed_view t = record {
  scalar = scalar_of t.scalar;
  type_of = type_of_option t.type_of;
  calls = calls_of t.calls.items;
  findings = findings_of t.findings;
}

unfoldable pub part_in : Typed → typing.Typed
part_in t = typed_view t

abbrev pub context_of : List Entry → Bool → typing.Context
context_of entries takes_calls = record { entries = entries_of entries; takes_calls = takes_calls }
