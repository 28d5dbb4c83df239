use Rattle.wh_dml_parse.specs.Read.{read_values_row}
use Rattle.wh_dml_parse.proofs.lists.row_list.Given as goal

abbrev pub ghost-listed : goal.ghost-listed
ghost-listed a = read_values_row a.depth
