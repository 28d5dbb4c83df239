use Rattle.std.proofs.Common.{◌≡◌, ◌<◌, drop}
use Rattle.wh_lex.specs.Front.{number_from}
use Rattle.wh_lex.proofs.words.number_of.Given as goal

abbrev pub invariant-loop-byte : goal.invariant-loop-byte
invariant-loop-byte l = record {
  small : l.number < 1000000000000000000;
  same : number_from l.number (drop l.byte-index l.digits) ≡ number_from 0 l.digits;
}
