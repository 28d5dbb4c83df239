use Rattle.wh_dml_parse.specs.Read.{read_assignment}
use Rattle.wh_dml_parse.proofs.lists.assignment_list.Given as goal

abbrev pub ghost-listed : goal.ghost-listed
ghost-listed a = read_assignment a.depth
