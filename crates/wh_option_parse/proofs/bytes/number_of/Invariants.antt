use Rattle.std.proofs.Common.{◌≡◌, ◌<◌, drop}
use Rattle.wh_grammar.specs.Bytes.{number_behind}
use Rattle.wh_option_parse.proofs.NumberLemmas.{limit}
use Rattle.wh_option_parse.proofs.bytes.number_of.Given as goal

abbrev pub invariant-loop-byte : goal.invariant-loop-byte
invariant-loop-byte l = record {
  small : l.number < limit l.byte-index;
  same : number_behind l.number (drop l.byte-index l.digits) ≡ number_behind 0 l.digits;
}
