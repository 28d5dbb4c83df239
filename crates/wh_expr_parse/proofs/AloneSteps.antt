-- A literal that stands alone is the expression.
use Rattle.std.proofs.Common.{◌≡◌, ℕ, ◌==◌, true, List, [], ◌∷◌, arith}
use Rattle.std.proofs.lemmas.Bool.Decides.{Decides-eqb}
use Rattle.wh_ast.specs.declared.expr.Expr.{Expr}
use Rattle.wh_grammar.specs.Token.{Token, Word, Quoted, TextToken, NumberToken, SignToken}
use Rattle.wh_grammar.specs.Expression as g
use Rattle.wh_grammar.specs.Expression.{IsExpr, IsPrim}
use Rattle.wh_cursor.specs.Binds.{binds}
use Rattle.wh_expr_parse.specs.Alone.{stands_alone}
use Rattle.wh_expr_parse.specs.Read.{read_expr, read_literal}
use Rattle.wh_expr_parse.proofs.ExprSteps.{expr_reads}

-- a primary goes through every level
primary_is : {d : ℕ} {ts us : List Token} {x : Expr} → IsPrim d 0 ts x us → IsExpr d ts x us
primary_is h = record {
  count = 0;
  few = omega arith;
  whole = g.one_and (g.one_not (g.one_test (g.one_sum (g.one_product (g.one_unary (g.one_prim h))))));
}

ends : (us : List Token) → (binds us == 0) ≡ true → binds us ≡ 0
ends us e = (Decides-eqb (binds us) 0).0 e

pub alone_reads : (d : ℕ) (ts : List Token) → stands_alone ts ≡ true → read_expr d ts ≡ read_literal ts
unfolding stands_alone read_literal
alone_reads d [] e = absurd (cc)
alone_reads d (Word w ∷ us) e = absurd (cc)
alone_reads d (Quoted name ∷ us) e = absurd (cc)
alone_reads d (TextToken bytes ∷ us) e = expr_reads (primary_is g.text) (ends us e)
alone_reads d (NumberToken n ∷ us) e = expr_reads (primary_is g.number) (ends us e)
alone_reads d (SignToken s ∷ us) e = absurd (cc)
