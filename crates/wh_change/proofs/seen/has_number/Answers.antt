use Rattle.std.proofs.Common.{ap, sym, is_some, arith}
use Rattle.wh_change.proofs.RisingRows.{before_none, behind_none}
use Rattle.wh_change.proofs.seen.has_number.Goals.{then-number-first-via-then-number-first}
use Rattle.wh_change.proofs.seen.has_number.Goals.{then-number-first-via-else-number-first+then-last-number}
use Rattle.wh_change.proofs.seen.has_number.Goals as goal

pub returns-then-number-first : goal.returns-then-number-first
returns-then-number-first c =
    let rows = c.args.partition.now.rows in
    elim c.then-number-first.branch [
      | then-number-first-via-then-number-first w ↦
          sym (ap is_some (before_none c.args.number rows c.rows-rows.ensures.rising
          (omega (arith, w.if-number-first.true, c.first.ensures))))
      | then-number-first-via-else-number-first+then-last-number w ↦
          sym (ap is_some (behind_none c.args.number 0 rows c.rows-rows.ensures.rising
          (omega (arith, w.if-last-number.true, w.last.ensures))))
    ]
