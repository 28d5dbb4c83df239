use Rattle.wh_grammar.specs.Bytes.{is_digit}
use Rattle.wh_lex.proofs.WordLemmas.{all-prefix}
use Rattle.wh_option_parse.proofs.span.read_span.Goals as goal

pub number_of-number-requires-clause-digits : goal.number_of-number-requires-clause-digits
number_of-number-requires-clause-digits c = rw c.digit_count-count.ensures.is (all-prefix is_digit c.args.text.now)
