-- One item more.
use Rattle.std.proofs.Common.{◌≡◌, ℕ, suc, true, List, [], ◌∷◌, ◌++◌, Some, refl}
use Rattle.wh_ast.specs.declared.expr.Expr.{Expr}
use Rattle.wh_cursor.specs.declared.key.TokenClass.TheVariants as k
use Rattle.wh_expr_parse.specs.declared.grammar.Level.{Level}
use Rattle.wh_expr_parse.specs.declared.grammar.Level.TheVariants.{Whole}
use Rattle.wh_expr_parse.specs.State.{State, next, Reader, spend}
use Rattle.wh_cursor.specs.Steps.{sees}
use Rattle.wh_expr_parse.specs.Read.{items_from}

pub one_item : (inner : Level → Reader Expr) (n : ℕ) (found : List Expr) (s t u : State) (x : Expr)
    → spend s ≡ Some (tt, t) → inner Whole t ≡ Some (x, u) → sees k.Comma u.left ≡ true
    → items_from inner (suc n) found s ≡ items_from inner n (found ++ x ∷ []) (next u)
unfolding items_from
one_item inner n found s t u x one read comma = rw (one, read, comma) refl
