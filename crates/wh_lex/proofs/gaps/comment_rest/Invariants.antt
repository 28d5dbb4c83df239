use Rattle.std.proofs.Common.{◌≡◌, length}
use Rattle.wh_lex.specs.Front.{comment_rest}
use Rattle.wh_lex.proofs.gaps.comment_rest.Given as goal

abbrev pub invariant-loop-rest : goal.invariant-loop-rest
invariant-loop-rest l = comment_rest l.rest ≡ comment_rest l.text

abbrev pub decreases-loop-rest : goal.decreases-loop-rest
decreases-loop-rest l = length l.rest
