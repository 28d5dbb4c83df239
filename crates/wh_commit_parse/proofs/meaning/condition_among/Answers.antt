use Rattle.wh_grammar.specs.Spelled.{tokens_of}
use Rattle.wh_stmt_parse.proofs.Outcomes.{gives_reads}
use Rattle.wh_commit_parse.specs.Meant.{read_whole}
use Rattle.wh_commit_parse.proofs.meaning.condition_among.Goals as goal

pub returns : goal.returns
returns c = gives_reads read_whole (tokens_of c.args.tokens.now) _ _ _ c.new-words.ensures c.whole.ensures
