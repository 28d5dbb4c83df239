-- The operator of two operands that a token is.
use Rattle.std.specs.Prelude.{ℕ, Option, Some, None, ◌==◌, if◌then◌else◌}
use Rattle.wh_ast.specs.declared.expr.Operator.{Operator}
use Rattle.wh_ast.specs.declared.expr.Operator.TheVariants as o
use Rattle.wh_cursor.specs.declared.key.TokenClass.{TokenClass}
use Rattle.wh_cursor.specs.declared.key.TokenClass.TheVariants as k
use Rattle.wh_cursor.specs.Keys.{key_binds}

abbrev pub operator : TokenClass → Option Operator
operator k.Or = Some o.Or
operator k.And = Some o.And
operator k.Plus = Some o.Add
operator k.Minus = Some o.Sub
operator k.Star = Some o.Mul
operator _ = None

-- the operator of a level
unfoldable pub joins : ℕ → TokenClass → Option Operator
joins level key = if key_binds key == level then operator key else None
