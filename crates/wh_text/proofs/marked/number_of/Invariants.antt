use Rattle.std.proofs.Common.{◌≡◌, ◌^◌, ◌<◌, drop}
use Rattle.std.specs.List.{list_all}
use Rattle.wh_grammar.specs.Bytes.{is_digit, number_behind}
use Rattle.wh_text.proofs.marked.number_of.Given as goal

abbrev pub invariant-loop-digit : goal.invariant-loop-digit
invariant-loop-digit l = record {
  number : number_behind l.number (drop l.digit-index l.digits) ≡ number_behind 0 l.digits;
  digits : list_all is_digit (drop l.digit-index l.digits) ≡ list_all is_digit l.digits;
  small : l.number < 10 ^ l.digit-index;
}
