-- The laws of expressions, for the clauses that cite them.
use Rattle.wh_expr_parse.specs.Laws as laws
use Rattle.wh_expr_parse.proofs.Soundness.{read_sound}
use Rattle.wh_expr_parse.proofs.Completeness.{read_complete, one_expr}
use Rattle.wh_expr_parse.proofs.Fronts.{expr-front}

pub reads_exprs : laws.ReadsExprs
reads_exprs d ts x us = (read_sound d ts x us, read_complete d ts x us)

pub tokens_fix_expr : laws.TokensFixExpr
tokens_fix_expr = one_expr

pub expr_is_front : laws.ExprIsFront
expr_is_front = expr-front
