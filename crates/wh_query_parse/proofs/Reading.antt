-- What is read is what stands there.
use Rattle.std.proofs.Common.{◌≡◌, List, sym, ap, ◌∙◌}
use Rattle.std.proofs.lemmas.Option.{same_Some}
use Rattle.wh_ast.specs.declared.query.Query.{Query}
use Rattle.wh_grammar.specs.Token.{Token}
use Rattle.wh_query_parse.specs.Read.{read_source, read_query}
use Rattle.wh_query_parse.specs.Laws.{ReadsQueries, ReadsSources, ReadsAliases, ReadsFilters, TokensFixQuery}
use Rattle.wh_query_parse.specs.Laws.{QueryIsFront, SourceIsFront}
use Rattle.wh_cursor.proofs.Yields.{yielded}
use Rattle.wh_query_parse.proofs.Fronts.{query_front, source_front}
use Rattle.wh_query_parse.proofs.Soundness.{read_query-sound, read_source-sound, alias-sound, filter-sound}
use Rattle.wh_query_parse.proofs.PartSteps.{alias-complete, filter-complete}
use Rattle.wh_query_parse.proofs.Completeness.{query-complete, source-complete}

pub queries_read : ReadsQueries
unfolding read_query
queries_read d ts q us = (yielded (read_query-sound d ts) q us, λ h. query-complete h.query h.ends)

pub sources_read : ReadsSources
unfolding read_source
sources_read d ts x us = (yielded (read_source-sound d ts) x us, λ h. source-complete h.source h.ends)

pub aliases_read : ReadsAliases
aliases_read ts x us = (yielded (alias-sound ts) x us, λ h. alias-complete h.alias h.ends)

pub filters_read : ReadsFilters
filters_read d ts x us = (yielded (filter-sound d ts) x us, λ h. filter-complete h.filter h.ends)

pub tokens_fix_query : TokensFixQuery
tokens_fix_query d ts q r us vs h l =
    let same : (q, us) ≡ (r, vs) = same_Some _ _ (sym ((queries_read d ts q us).1 h) ∙ (queries_read d ts r vs).1 l) in
    (ap (λ (p : Query × List Token). p.0) same, ap (λ (p : Query × List Token). p.1) same)

pub query_is_front : QueryIsFront
query_is_front = query_front

pub source_is_front : SourceIsFront
source_is_front = source_front
