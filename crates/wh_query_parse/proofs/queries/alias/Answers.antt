use Rattle.wh_cursor.proofs.Found.{found_by, none_by}
use Rattle.wh_query_parse.proofs.Reading.{aliases_read}
use Rattle.wh_query_parse.proofs.queries.alias.Goals as goal

pub returns-clause-found : goal.returns-clause-found
returns-clause-found c = found_by (aliases_read c.args.words.now) _ _ c.optional_alias.ensures.reads

pub returns-clause-none : goal.returns-clause-none
returns-clause-none c = none_by (aliases_read c.args.words.now) _ _ c.optional_alias.ensures.reads
