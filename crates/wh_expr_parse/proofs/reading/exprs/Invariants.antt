use Rattle.wh_expr_parse.specs.Read.{read_expr}
use Rattle.wh_expr_parse.proofs.reading.exprs.Given as goal

abbrev pub ghost-listed : goal.ghost-listed
ghost-listed a = read_expr a.depth
