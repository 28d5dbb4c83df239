use Rattle.std.proofs.Common.{◌∙◌, ◌*◌, ◌+◌, sym, arith}
use Rattle.wh_lex.proofs.NumberLemmas.{number_from-more, number_from-stop, number_from-large, number_from-all}
use Rattle.wh_lex.proofs.words.number_of.Goals as goal

pub returns-then-not-is_digit : goal.returns-then-not-is_digit
returns-then-not-is_digit c =
    sym (number_from-stop c.args.digits.now c.loop-byte.number c.loop-byte.byte-index c.loop-byte-test.true
    (sym c.is_digit.ensures ∙ c.if-not-is_digit.true))
    ∙ c.loop-byte.invariant.same

pub returns-then-number-ge-LIMIT : goal.returns-then-number-ge-LIMIT
returns-then-number-ge-LIMIT c =
    let n = c.loop-byte.number in
    let more =
    number_from-more c.args.digits.now n (n * 10 + c.from.result) c.loop-byte.byte-index c.loop-byte-test.true
    (sym c.is_digit.ensures ∙ c.if-not-is_digit.false) (omega (arith, c.from.ensures)) in
    sym (more ∙ number_from-large _ _ c.if-number-ge-LIMIT.true) ∙ c.loop-byte.invariant.same

pub loop-byte-preserved : goal.loop-byte-preserved
loop-byte-preserved c =
    let n = c.loop-byte.number in
    let more =
    number_from-more c.args.digits.now n (n * 10 + c.from.result) c.loop-byte.byte-index c.loop-byte-test.true
    (sym c.is_digit.ensures ∙ c.if-not-is_digit.false) (omega (arith, c.from.ensures)) in
    record { small = c.if-number-ge-LIMIT.false; same = sym more ∙ c.loop-byte.invariant.same }

pub returns : goal.returns
returns c =
    sym (number_from-all c.args.digits.now c.loop-byte.number c.loop-byte.byte-index c.loop-byte-test.false
    c.loop-byte.invariant.small)
    ∙ c.loop-byte.invariant.same
