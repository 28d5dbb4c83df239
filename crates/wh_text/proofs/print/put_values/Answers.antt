use Rattle.std.proofs.Common.{◌<◌, length, arith}
use Rattle.std.proofs.lemmas.Grind.{common_steps}
use Rattle.wh_text.proofs.Parts.{first_part}
use Rattle.wh_text.proofs.print.put_values.Goals as goal

pub returns-in_ok-print_literal-in-len1-up : goal.returns-in_ok-print_literal-in-len1-up
returns-in_ok-print_literal-in-len1-up c =
    let some : 0 < length c.args.values.now = omega arith in
    rw (first_part c.args.values.now c.first-item.result some c.first-item.is) (grind (arith, common_steps))
