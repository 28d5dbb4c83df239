use Rattle.wh_query_parse.proofs.Reading as lemmas
use Rattle.wh_query_parse.proofs.queries.reading_laws.Goals as goal

pub returns-clause-queries : goal.returns-clause-queries
returns-clause-queries c = lemmas.queries_read

pub returns-clause-sources : goal.returns-clause-sources
returns-clause-sources c = lemmas.sources_read

pub returns-clause-aliases : goal.returns-clause-aliases
returns-clause-aliases c = lemmas.aliases_read

pub returns-clause-filters : goal.returns-clause-filters
returns-clause-filters c = lemmas.filters_read
