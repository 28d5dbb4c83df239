use Rattle.std.proofs.Common.{◌+◌, ◌*◌, ◌∙◌, get_or, refl, arith}
use Rattle.wh_option_parse.proofs.NumberLemmas.{limit, limit_few, limit_next, digit_at, digit_bounds, number_more}
use Rattle.wh_option_parse.proofs.bytes.number_of.Goals as goal

pub loop-byte-init : goal.loop-byte-init
unfolding limit
loop-byte-init c = record { small = omega arith; same = refl }

pub overflow_mul-number : goal.overflow_mul-number
overflow_mul-number c =
    let few = limit_few c.loop-byte.byte-index (omega (arith, c.loop-byte-test.true, c.requires.few)) in
    omega (arith, few, c.loop-byte.invariant.small)

pub overflow_add-number : goal.overflow_add-number
overflow_add-number c =
    let few = limit_few c.loop-byte.byte-index (omega (arith, c.loop-byte-test.true, c.requires.few)) in
    let digit = digit_bounds (get_or c.args.digits.now c.loop-byte.byte-index 0)
    (digit_at c.args.digits.now c.loop-byte.byte-index c.loop-byte-test.true c.requires.digits) in
    omega (arith, few, c.loop-byte.invariant.small, c.from.ensures, digit.0, digit.1)

pub loop-byte-preserved : goal.loop-byte-preserved
loop-byte-preserved c =
    let digit = digit_bounds (get_or c.args.digits.now c.loop-byte.byte-index 0)
    (digit_at c.args.digits.now c.loop-byte.byte-index c.loop-byte-test.true c.requires.digits) in
    let next = limit_next c.loop-byte.byte-index in
    record {
      small = omega (arith, next, c.loop-byte.invariant.small, c.from.ensures, digit.0, digit.1);
      same = number_more c.args.digits.now c.loop-byte.number (c.loop-byte.number * 10 + c.from.result)
          c.loop-byte.byte-index c.loop-byte-test.true (omega (arith, c.from.ensures))
          ∙ c.loop-byte.invariant.same;
    }

pub returns-clause-small : goal.returns-clause-small
returns-clause-small c =
    let few = limit_few c.loop-byte.byte-index (omega (arith, c.loop-byte.auto.byte-index-end, c.requires.few)) in
    omega (arith, few, c.loop-byte.invariant.small)
