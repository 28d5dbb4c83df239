use Rattle.wh_query_parse.specs.Read.{read_item}
use Rattle.wh_query_parse.proofs.items.items.Given as goal

abbrev pub ghost-listed : goal.ghost-listed
ghost-listed a = read_item a.depth
