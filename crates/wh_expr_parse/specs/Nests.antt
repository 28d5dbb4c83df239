-- A function value that reads what stands inside an expression, to a depth.
use Rattle.std.specs.Prelude.{ℕ, Result}
use Rattle.std.specs.declared.alloc.Global.{Global}
use denote.Ref.{MutBor}
use Rattle.wh_ast.specs.declared.expr.Expr.{Expr}
use Rattle.wh_cursor.specs.declared.fault.ParseFault.{ParseFault}
use Rattle.wh_expr_parse.specs.declared.grammar.Level.{Level}
use Rattle.wh_cursor.specs.Gives.{Reads}
use Rattle.wh_expr_parse.specs.State.{State}
use Rattle.wh_expr_parse.specs.Read.{nested}

pub record Nests (depth : ℕ) (pre : Global → MutBor State → ℕ → Level → Type 0)
    (post : Global → MutBor State → ℕ → Level → Result Expr ParseFault → MutBor State → Type 0) : Type 0 where
  pub callable : (alloc : Global) (old : MutBor State) (level : Level) → pre alloc old depth level
  pub reads : (alloc : Global) (old new : MutBor State) (level : Level) (r : Result Expr ParseFault)
      → post alloc old depth level r new
      → Reads (nested depth level old.now) r new.now
