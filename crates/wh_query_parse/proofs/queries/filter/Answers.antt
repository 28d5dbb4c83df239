use Rattle.wh_cursor.proofs.Found.{found_by, none_by}
use Rattle.wh_query_parse.proofs.Reading.{filters_read}
use Rattle.wh_query_parse.proofs.queries.filter.Goals as goal

pub returns-clause-found : goal.returns-clause-found
returns-clause-found c = found_by (filters_read c.args.depth c.args.words.now) _ _ c.optional_filter.ensures.reads

pub returns-clause-none : goal.returns-clause-none
returns-clause-none c = none_by (filters_read c.args.depth c.args.words.now) _ _ c.optional_filter.ensures.reads
