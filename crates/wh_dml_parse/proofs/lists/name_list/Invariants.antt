use Rattle.wh_cursor.specs.Steps.{read_name}
use Rattle.wh_dml_parse.proofs.lists.name_list.Given as goal

abbrev pub ghost-listed : goal.ghost-listed
ghost-listed a = read_name
