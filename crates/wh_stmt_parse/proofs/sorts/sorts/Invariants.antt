use Rattle.wh_stmt_parse.specs.Parts.{read_sort}
use Rattle.wh_stmt_parse.proofs.sorts.sorts.Given as goal

abbrev pub ghost-listed : goal.ghost-listed
ghost-listed a = read_sort
