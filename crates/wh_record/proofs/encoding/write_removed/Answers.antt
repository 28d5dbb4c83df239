use Rattle.std.proofs.Common.{sym, ◌∙◌}
use Rattle.wh_record.proofs.FieldLaws.{rising_numbers, rising_is}
use Rattle.wh_record.proofs.encoding.write_removed.Goals as goal

pub returns-clause-rising : goal.returns-clause-rising
returns-clause-rising c =
    rising_is rising_numbers 0 c.args.removed.now c.in_ok-write_each_number.ensures.wide
    (sym c.rise.ensures ∙ c.if-not-rise.false)
