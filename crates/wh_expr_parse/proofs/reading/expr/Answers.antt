use Rattle.wh_expr_parse.specs.Laws.{IsExprAt}
use Rattle.wh_cursor.proofs.Found as lemmas
use Rattle.wh_expr_parse.proofs.Soundness.{read_sound}
use Rattle.wh_expr_parse.proofs.Completeness.{read_complete}
use Rattle.wh_expr_parse.proofs.reading.expr.Goals as goal

pub returns-clause-found : goal.returns-clause-found
returns-clause-found c = lemmas.found (IsExprAt c.args.depth c.args.words.now) _
    (read_sound c.args.depth c.args.words.now) _ _ c.whole_expr.ensures.reads

pub returns-clause-none : goal.returns-clause-none
returns-clause-none c = lemmas.none (IsExprAt c.args.depth c.args.words.now) _
    (read_complete c.args.depth c.args.words.now) _ _ c.whole_expr.ensures.reads
