use Rattle.wh_cursor.proofs.Found.{found_by, none_by}
use Rattle.wh_query_parse.proofs.Reading.{queries_read}
use Rattle.wh_query_parse.proofs.queries.query.Goals as goal

pub returns-clause-found : goal.returns-clause-found
returns-clause-found c = found_by (queries_read c.args.depth c.args.words.now) _ _ c.whole_query.ensures.reads

pub returns-clause-none : goal.returns-clause-none
returns-clause-none c = none_by (queries_read c.args.depth c.args.words.now) _ _ c.whole_query.ensures.reads
