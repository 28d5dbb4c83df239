use Rattle.std.proofs.Common.{◌≡◌, ◌+◌, drop}
use Rattle.std.specs.List.{prefix_len}
use Rattle.wh_grammar.specs.Bytes.{is_digit}
use Rattle.wh_option_parse.proofs.bytes.digit_count.Given as goal

abbrev pub invariant-loop-i : goal.invariant-loop-i
invariant-loop-i l = prefix_len is_digit l.text ≡ l.i + prefix_len is_digit (drop l.i l.text)
