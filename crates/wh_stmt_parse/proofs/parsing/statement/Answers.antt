use Rattle.wh_grammar.specs.Spelled.{tokens_of}
use Rattle.wh_stmt_parse.specs.Read.{read_all, statement_of}
use Rattle.wh_stmt_parse.proofs.Outcomes.{gives_reads}
use Rattle.wh_stmt_parse.proofs.parsing.statement.Goals as goal

pub returns : goal.returns
unfolding statement_of
returns c = gives_reads (read_all c.args.text.now c.args.tokens.now)
    (tokens_of c.args.tokens.now) _ _ _ c.new-words.ensures c.all.ensures
