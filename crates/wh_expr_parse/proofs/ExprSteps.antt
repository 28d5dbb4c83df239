-- Expressions as a step of other rules: what is read, what is read where it stands, and
-- that each takes a token at least.
use Rattle.std.proofs.Common.{◌≡◌, ℕ, ◌<◌, false, List, length, Some, refl, arith}
use Rattle.wh_ast.specs.declared.expr.Expr.{Expr}
use Rattle.wh_grammar.specs.Token.{Token}
use Rattle.wh_grammar.specs.Expression.{IsExpr, AreExprs, last_expr, more_exprs}
use Rattle.wh_cursor.specs.declared.key.TokenClass.TheVariants as k
use Rattle.wh_cursor.specs.Binds.{binds}
use Rattle.wh_cursor.specs.Steps.{sees}
use Rattle.wh_cursor.proofs.Yields.{Yields, yields_law}
use Rattle.wh_cursor.proofs.Combine.{follows-shorter}
use Rattle.wh_cursor.proofs.ListLemmas.{listed-sound, GivesListed, listed-last, listed-more, listed-reads}
use Rattle.wh_expr_parse.specs.Laws.{IsExprAt}
use Rattle.wh_expr_parse.specs.Read.{read_expr, read_exprs}
use Rattle.wh_expr_parse.proofs.Soundness.{read_sound}
use Rattle.wh_expr_parse.proofs.Completeness.{read_complete}
use Rattle.wh_expr_parse.proofs.Fronts.{expr-front}

pub expr_reads : {d : ℕ} {ts us : List Token} {x : Expr} → IsExpr d ts x us → binds us ≡ 0
    → read_expr d ts ≡ Some (x, us)
expr_reads h e = read_complete _ _ _ _ (record { expr = h; ends = e })

pub expr-yields : (d : ℕ) (ts : List Token) → Yields (read_expr d ts) (IsExprAt d ts)
expr-yields d ts = yields_law (λ x us h. read_sound d ts x us h)

pub expr_shorter : {d : ℕ} {ts us : List Token} {x : Expr} → IsExpr d ts x us → length us < length ts
expr_shorter h = follows-shorter (expr-front _ _ _ _ h)

-- ---- one or more, with commas between them

pub exprs-yields : (d : ℕ) (ts : List Token) → Yields (read_exprs d ts) (AreExprs d ts)
unfolding read_exprs
exprs-yields d = listed-sound (read_expr d) (IsExprAt d) (AreExprs d) (expr-yields d)
    (λ ts us x h end. last_expr h.expr) (λ ts us vs x xs h more. more_exprs h.expr more)

exprs-give : {d : ℕ} {ts us : List Token} {xs : List Expr} → AreExprs d ts xs us → binds us ≡ 0
    → sees k.Comma us ≡ false
    → GivesListed (read_expr d) ts xs us
exprs-give (last_expr h) e end = listed-last (expr_reads h e) (expr_shorter h) end
exprs-give (more_exprs h more) e end = listed-more (expr_reads h refl) (expr_shorter h) (exprs-give more e end)

pub exprs_read : {d : ℕ} {ts us : List Token} {xs : List Expr} → AreExprs d ts xs us → binds us ≡ 0
    → sees k.Comma us ≡ false → read_exprs d ts ≡ Some (xs, us)
unfolding read_exprs
exprs_read h e end = listed-reads (exprs-give h e end)

pub exprs_shorter : {d : ℕ} {ts us : List Token} {xs : List Expr} → AreExprs d ts xs us → length us < length ts
exprs_shorter (last_expr h) = expr_shorter h
exprs_shorter (more_exprs h more) =
    let one = expr_shorter h in
    let all = exprs_shorter more in
    omega (arith, one, all)
