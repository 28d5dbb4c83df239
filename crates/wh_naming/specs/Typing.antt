-- What expressions stand for.
--     Typed       a scalar with its type, the calls that stand in it, and what is found wrong
--     Context     what an expression sees: entries, and whether calls may stand there
--     typed       of an expression as it is written; None as type is that of NULL, which fits every type
use Rattle.std.specs.Prelude.{ℕ, ◌+◌, Bool, true, false, not, if◌then◌else◌, List, [], ◌∷◌, ◌++◌}
use Rattle.std.specs.Prelude.{length, Option, Some, None}
use Rattle.wh_value.specs.Value.{Value, Number, Truth, Text, Null}
use Rattle.wh_value.specs.View.{value_of}
use Rattle.wh_value.specs.Column.{ColumnType, NumberType, VarcharType, BooleanType}
use Rattle.wh_value.specs.declared.comparison.Comparison.{Comparison}
use Rattle.wh_value.specs.declared.comparison.Comparison.TheVariants as comparisons
use Rattle.wh_ast.specs.declared.expr.Operator.{Operator}
use Rattle.wh_ast.specs.declared.expr.Operator.TheVariants as operators
use Rattle.wh_ast.specs.declared.expr.Expr.{Expr, fold-Expr}
use Rattle.wh_ast.specs.declared.expr.Expr.TheOpen.{Expr-F}
use Rattle.wh_meaning.specs.Scalar.{Scalar, Const, Column, Neg, Add, Sub, Mul, Compare, And, Or, Not, IsNull}
use Rattle.wh_meaning.specs.Query.{Call, Sum, CountRows, Count}
use Rattle.wh_naming.specs.Findings.{Name, Findings, nothing_found, followed, unknown_column, mistyped_if}
use Rattle.wh_naming.specs.Scope.{Entry, Place, column_at, width}

pub record Typed : Type 0 where
  pub scalar : Scalar
  pub type_of : Option ColumnType
  pub calls : List Call
  pub findings : Findings

pub record Context : Type 0 where
  pub entries : List Entry
  pub takes_calls : Bool

-- ---- types

abbrev pub same_type : ColumnType → ColumnType → Bool
same_type NumberType NumberType = true
same_type VarcharType VarcharType = true
same_type BooleanType BooleanType = true
same_type _ _ = false

-- whether two types fit each other
abbrev pub alike : Option ColumnType → Option ColumnType → Bool
alike None b = true
alike (Some a) None = true
alike (Some a) (Some b) = same_type a b

abbrev pub value_type : Value → Option ColumnType
value_type (Number z) = Some NumberType
value_type (Truth b) = Some BooleanType
value_type (Text bytes) = Some VarcharType
value_type Null = None

-- what is found where a part takes a type
abbrev pub takes : ColumnType → Typed → Findings
takes t x = mistyped_if (not (alike (Some t) x.type_of))

-- ---- forms

abbrev pub leaf : Scalar → Option ColumnType → Findings → Typed
leaf scalar type_of findings = record { scalar = scalar; type_of = type_of; calls = []; findings = findings }

abbrev pub column_typed : Name → Option Place → Typed
column_typed name None = leaf (Const Null) None (unknown_column name)
column_typed name (Some p) = leaf (Column p.place) (Some p.column_type) nothing_found

-- one part, which takes a type
abbrev pub over : (Scalar → Scalar) → ColumnType → ColumnType → Typed → Typed
over make taken given x = record {
  scalar = make x.scalar;
  type_of = Some given;
  calls = x.calls;
  findings = followed x.findings (takes taken x);
}

-- two parts, which both take a type
abbrev pub over_both : (Scalar → Scalar → Scalar) → ColumnType → ColumnType → Typed → Typed → Typed
over_both make taken given x y = record {
  scalar = make x.scalar y.scalar;
  type_of = Some given;
  calls = x.calls ++ y.calls;
  findings = followed (followed x.findings y.findings) (followed (takes taken x) (takes taken y));
}

-- two parts of one type
abbrev pub compared_with : Comparison → Typed → Typed → Typed
compared_with comparison x y = record {
  scalar = Compare comparison x.scalar y.scalar;
  type_of = Some BooleanType;
  calls = x.calls ++ y.calls;
  findings = followed (followed x.findings y.findings) (mistyped_if (not (alike x.type_of y.type_of)));
}

abbrev pub combined : Operator → Typed → Typed → Typed
combined operators.Or x y = over_both Or BooleanType BooleanType x y
combined operators.And x y = over_both And BooleanType BooleanType x y
combined (operators.Compare comparison) x y = compared_with comparison x y
combined operators.Add x y = over_both Add NumberType NumberType x y
combined operators.Sub x y = over_both Sub NumberType NumberType x y
combined operators.Mul x y = over_both Mul NumberType NumberType x y

abbrev pub inverted_if : Bool → Typed → Typed
inverted_if negated x = record x { scalar = if negated then Not x.scalar else x.scalar }

abbrev pub null_test : Typed → Typed
null_test x = record x { scalar = IsNull x.scalar; type_of = Some BooleanType }

-- IN: the OR of its equalities, each typed against the left side alone
abbrev pub or_equal : Typed → Typed → Typed → Typed
or_equal x tests item = record {
  scalar = Or tests.scalar (Compare comparisons.Equal x.scalar item.scalar);
  type_of = Some BooleanType;
  calls = tests.calls ++ item.calls;
  findings = followed (followed tests.findings item.findings) (mistyped_if (not (alike x.type_of item.type_of)));
}

-- BETWEEN: x >= low AND x <= high
abbrev pub ranged_between : Typed → Typed → Typed → Typed
ranged_between x low high = record {
  scalar = And (Compare comparisons.GreaterOrEqual x.scalar low.scalar)
      (Compare comparisons.LessOrEqual x.scalar high.scalar);
  type_of = Some BooleanType;
  calls = (x.calls ++ low.calls) ++ high.calls;
  findings = followed (followed (followed x.findings low.findings) high.findings)
      (followed (mistyped_if (not (alike x.type_of low.type_of))) (mistyped_if (not (alike x.type_of high.type_of))));
}

-- a call stands for a place behind the columns of all entries, by its number among the calls; where calls may not
-- stand it is mistyped
abbrev pub called : Context → ℕ → Call → Findings → Typed
called context number call findings =
    if context.takes_calls then record {
      scalar = Column (width context.entries + number);
      type_of = Some NumberType;
      calls = call ∷ [];
      findings = findings;
    }
    else leaf (Const Null) (Some NumberType) (followed findings (mistyped_if true))

-- ---- the expression

-- in a context, behind that many calls
abbrev pub Reading : Type 0
Reading = Context → ℕ → Typed

-- no call may stand in a call
abbrev pub argument : Context → Context
argument context = record context { takes_calls = false }

-- the second and each further item of IN, behind the tests so far
abbrev pub more_items : Typed → List Reading → Context → ℕ → Typed → Typed
more_items x [] context calls tests = tests
more_items x (item ∷ items) context calls tests =
    more_items x items context calls (or_equal x tests (item context (calls + length tests.calls)))

abbrev pub among : Typed → List Reading → Context → ℕ → Typed
among x [] context calls = record x { scalar = Const (Truth false); type_of = Some BooleanType }
among x (item ∷ items) context calls =
    more_items x items context calls (compared_with comparisons.Equal x (item context (calls + length x.calls)))

abbrev pub between : Typed → Reading → Reading → Context → ℕ → Typed
between x low high context calls = with_low (low context (calls + length x.calls))
  where
    with_low : Typed → Typed
    with_low a = ranged_between x a (high context ((calls + length x.calls) + length a.calls))

abbrev pub binary : Operator → Typed → Reading → Context → ℕ → Typed
binary operator x second context calls = combined operator x (second context (calls + length x.calls))

unfoldable pub step : Expr-F Reading → Reading
step (Expr-F.Const v) context calls = leaf (Const (value_of v)) (value_type (value_of v)) nothing_found
step (Expr-F.Column entry name) context calls = column_typed name (column_at entry name context.entries)
step (Expr-F.Neg x) context calls = over Neg NumberType NumberType (x context calls)
step (Expr-F.Not x) context calls = over Not BooleanType BooleanType (x context calls)
step (Expr-F.Binary operator x y) context calls = binary operator (x context calls) y context calls
step (Expr-F.IsNull negated x) context calls = inverted_if negated (null_test (x context calls))
step (Expr-F.In negated x items) context calls = inverted_if negated (among (x context calls) items context calls)
step (Expr-F.Between negated x low high) context calls =
    inverted_if negated (between (x context calls) low high context calls)
step (Expr-F.Sum x) context calls = summed (x (argument context) calls)
  where
    summed : Typed → Typed
    summed a = called context calls (Sum a.scalar) (followed a.findings (takes NumberType a))
step Expr-F.CountRows context calls = called context calls CountRows nothing_found
step (Expr-F.Count x) context calls = counted (x (argument context) calls)
  where
    counted : Typed → Typed
    counted a = called context calls (Count a.scalar) a.findings

abbrev pub typed : Expr → Reading
typed e = fold-Expr Reading step e
