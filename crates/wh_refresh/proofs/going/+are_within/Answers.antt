use Rattle.std.proofs.Common.{◌<◌, length, arith}
use Rattle.std.proofs.lemmas.Bool.{OnFalse_at, OnFalse_from}
use Rattle.std.proofs.lemmas.Grind.{common_steps}
use Rattle.wh_refresh.proofs.HeldLaws.{first_between, rest_within}
use Rattle.wh_refresh.proofs.going.+are_within.Goals as goal

pub returns-then-is_within : goal.returns-then-is_within
returns-then-is_within t c =
    let columns = c.args.columns.now in
    let values = c.args.values.now in
    let some : 0 < length columns = grind (arith, common_steps) in
    let more : 0 < length values = grind (arith, common_steps) in
    OnFalse_from c.are_within.result _
    (λ is within. OnFalse_at is c.are_within.ensures (rest_within columns values some more within))

pub returns-else-is_within : goal.returns-else-is_within
returns-else-is_within t c =
    let columns = c.args.columns.now in
    let values = c.args.values.now in
    let some : 0 < length columns = grind (arith, common_steps) in
    let more : 0 < length values = grind (arith, common_steps) in
    rw (c.if-is_within.false) (λ within.
    let is = first_between columns values c.bounds-item.result c.value-item.result some more c.bounds-item.is
    c.value-item.is within in
    let not_so = c.if-is_within.false in let at = c.is_within.ensures in cc)
