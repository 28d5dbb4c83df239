-- Forms of scalars and expressions.
--     part_of       a part of a scalar, its type, its calls and what is found
--     scalar_by     what stands between two scalars
--     scalar_under, taken_by     what stands before one, and the type that it takes and gives
--     alone         a scalar of a type, with nothing else
--     under         two parts with an operator between them, and whether it is mistyped
--     equal_to      a part's equality with a scalar on its left
--     sees          what an expression sees
use Rattle.std.specs.Prelude.{Bool, List, Option, Some, ◌++◌}
use Rattle.wh_value.specs.Column.{ColumnType, NumberType, BooleanType}
use Rattle.wh_value.specs.declared.comparison.Comparison.TheVariants.{Equal}
use Rattle.wh_naming.specs.Findings.{Findings, nothing_found, followed, mistyped_if}
use Rattle.wh_naming.specs.Typing.{Typed, leaf}
use Rattle.wh_naming.specs.Typing as typing
use Rattle.wh_expr_bind.specs.View.{context_of}
use Rattle.wh_expr_bind.specs.declared.context.Context.{Context}
use Rattle.wh_expr_bind.specs.declared.scalars.Prefix.{Prefix}
use Rattle.wh_expr_bind.specs.declared.scalars.Prefix.TheVariants as prefixes
use Rattle.wh_ast.specs.declared.expr.Operator.{Operator}
use Rattle.wh_ast.specs.declared.expr.Operator.TheVariants as operators
use Rattle.wh_meaning.specs.Query.{Call}
use Rattle.wh_meaning.specs.Scalar as meaning
use Rattle.wh_meaning.specs.Scalar.{Scalar}

abbrev pub scalar_by : Operator → Scalar → Scalar → Scalar
scalar_by operators.Or = meaning.Or
scalar_by operators.And = meaning.And
scalar_by (operators.Compare comparison) = meaning.Compare comparison
scalar_by operators.Add = meaning.Add
scalar_by operators.Sub = meaning.Sub
scalar_by operators.Mul = meaning.Mul

abbrev pub scalar_under : Prefix → Scalar → Scalar
scalar_under prefixes.Minus = meaning.Neg
scalar_under prefixes.Not = meaning.Not

abbrev pub taken_by : Prefix → ColumnType
taken_by prefixes.Minus = NumberType
taken_by prefixes.Not = BooleanType

abbrev pub part_of : Scalar → Option ColumnType → List Call → Findings → Typed
part_of scalar type_of calls findings =
    record { scalar = scalar; type_of = type_of; calls = calls; findings = findings }

abbrev pub alone : Typed → Typed
alone x = leaf x.scalar x.type_of nothing_found

unfoldable pub under : Operator → ColumnType → Typed → Typed → Bool → Typed
under operator given x y is_mistyped = record {
  scalar = scalar_by operator x.scalar y.scalar;
  type_of = Some given;
  calls = x.calls ++ y.calls;
  findings = followed (followed x.findings y.findings) (mistyped_if is_mistyped);
}

abbrev pub equal_to : Typed → Typed → Typed
equal_to left x = record x { scalar = meaning.Compare Equal left.scalar x.scalar }

abbrev pub sees : Context → typing.Context
sees c = context_of c.entries.now c.takes_calls
