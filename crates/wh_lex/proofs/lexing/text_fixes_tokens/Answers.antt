use Rattle.wh_lex.proofs.TokenLaws as laws
use Rattle.wh_lex.proofs.ReadLaws.{tokens_read}
use Rattle.wh_lex.proofs.lexing.text_fixes_tokens.Goals as goal

pub returns : goal.returns
returns c = record { tokens = laws.text_fixes_tokens; reads = tokens_read }
