use Rattle.std.proofs.Common.{◌≡◌, ◌+◌, drop}
use Rattle.wh_lex.specs.Front.{word_len}
use Rattle.wh_lex.proofs.words.word_len.Given as goal

abbrev pub invariant-loop-i : goal.invariant-loop-i
invariant-loop-i l = word_len l.text ≡ l.i + word_len (drop l.i l.text)
