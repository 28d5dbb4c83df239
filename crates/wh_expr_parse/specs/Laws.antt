-- What holds of expressions among tokens.
--     IsExprAt          an expression, and no token behind it goes on with it
--     ReadsExprs        read_expr gives the expression that the tokens begin with, exactly where they begin with one
--     TokensFixExpr     no tokens begin with two expressions
--     ExprIsFront       an expression is a front of the tokens, and not empty
use Rattle.std.specs.Prelude.{◌≡◌, ◌↔◌, ℕ, List, Some}
use Rattle.wh_ast.specs.declared.expr.Expr.{Expr}
use Rattle.wh_grammar.specs.Token.{Token}
use Rattle.wh_grammar.specs.Expression.{IsExpr}
use Rattle.wh_cursor.specs.Binds.{binds}
use Rattle.wh_cursor.specs.Laws.{Follows}
use Rattle.wh_expr_parse.specs.Read.{read_expr}

-- A parser that reads from the left takes the longest expression, so it takes this one or none. The grammar's rules
-- need no such word: each says which token follows.
pub record IsExprAt (d : ℕ) (ts : List Token) (x : Expr) (us : List Token) : Type 0 where
  pub expr : IsExpr d ts x us
  pub ends : binds us ≡ 0

abbrev pub ReadsExprs : Type 0
ReadsExprs = (d : ℕ) (ts : List Token) (x : Expr) (us : List Token)
    → (read_expr d ts ≡ Some (x, us)) ↔ IsExprAt d ts x us

abbrev pub TokensFixExpr : Type 0
TokensFixExpr = (d : ℕ) (ts : List Token) (x y : Expr) (us vs : List Token) → IsExprAt d ts x us
    → IsExprAt d ts y vs → (x ≡ y) × (us ≡ vs)

abbrev pub ExprIsFront : Type 0
ExprIsFront = (d : ℕ) (ts : List Token) (x : Expr) (us : List Token) → IsExpr d ts x us → Follows ts us
