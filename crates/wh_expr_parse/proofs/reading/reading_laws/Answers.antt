use Rattle.wh_expr_parse.proofs.Found as lemmas
use Rattle.wh_expr_parse.proofs.reading.reading_laws.Goals as goal

pub returns : goal.returns
returns c = record { exprs = lemmas.reads_exprs; fixed = lemmas.tokens_fix_expr; front = lemmas.expr_is_front }
