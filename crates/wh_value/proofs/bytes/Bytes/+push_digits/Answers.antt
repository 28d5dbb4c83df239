use Rattle.std.proofs.Common.{◌<◌, ◌^◌, arith, rules, append_assoc}
use Rattle.std.proofs.lemmas.Fmt.{decimal_digit, decimal_step}
use Rattle.std.proofs.lemmas.Result.{IfOk-equal}
use Rattle.wh_value.proofs.bytes.Bytes.+push_digits.Goals as goal

pub returns-then-number-lt10-clause-ok : goal.returns-then-number-lt10-clause-ok
returns-then-number-lt10-clause-ok t c =
    let e = decimal_digit c.args.number (omega arith) in rw e c.push.ensures.ok

pub returns-clause-ok : goal.returns-clause-ok
returns-clause-ok t c =
    let small : c.args.number < 2 ^ 64 = omega arith in
    let e = decimal_step c.args.number (omega arith) small in search (rules, append_assoc, IfOk-equal)
