use Rattle.std.proofs.Common.{ap, ◌∙◌}
use Rattle.wh_commit_parse.specs.Meant.{query_in, query_of}
use Rattle.wh_commit_parse.proofs.MeantLaws.{no_query}
use Rattle.wh_commit_parse.proofs.meaning.tree_of.Goals as goal

pub returns : goal.returns
unfolding query_of
returns c = ap query_in c.in_ok-query.ensures.reads ∙ no_query _ c.in_default.not-Select
