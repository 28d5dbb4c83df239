use Rattle.std.proofs.Common.{length}
use Rattle.wh_lex.proofs.TokenLaws.{Left}
use Rattle.wh_lex.proofs.lexing.tokens.Given as goal

abbrev pub invariant-fronts : goal.invariant-fronts
invariant-fronts l = Left l.made.items l.rest l.text

abbrev pub decreases-fronts : goal.decreases-fronts
decreases-fronts l = length l.rest
