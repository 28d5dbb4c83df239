use Rattle.std.proofs.Common.{sym, ◌∙◌, ap}
use Rattle.std.specs.Prelude.{not}
use Rattle.wh_query_parse.proofs.Seen.{as_alias, named_alias}
use Rattle.wh_query_parse.specs.Follow.{names_key}
use Rattle.wh_query_parse.proofs.follow.ends_alias.Goals as goal

pub returns-then-sees_word : goal.returns-then-sees_word
returns-then-sees_word c = as_alias c.args.words.now (sym c.sees_word.ensures ∙ c.if-sees_word.true)

pub returns : goal.returns
returns c = ap not (c.is_named.ensures ∙ ap names_key c.key.ensures)
    ∙ named_alias c.args.words.now (sym c.sees_word.ensures ∙ c.if-sees_word.false)
