use Rattle.wh_cursor.proofs.Found.{found_by, none_by}
use Rattle.wh_query_parse.proofs.Reading.{sources_read}
use Rattle.wh_query_parse.proofs.queries.source.Goals as goal

pub returns-clause-found : goal.returns-clause-found
returns-clause-found c = found_by (sources_read c.args.depth c.args.words.now) _ _ c.whole_source.ensures.reads

pub returns-clause-none : goal.returns-clause-none
returns-clause-none c = none_by (sources_read c.args.depth c.args.words.now) _ _ c.whole_source.ensures.reads
