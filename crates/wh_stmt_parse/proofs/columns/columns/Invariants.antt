use Rattle.wh_stmt_parse.specs.Parts.{read_column}
use Rattle.wh_stmt_parse.proofs.columns.columns.Given as goal

abbrev pub ghost-listed : goal.ghost-listed
ghost-listed a = read_column
