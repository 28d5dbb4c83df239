use Rattle.std.proofs.Common.{arith}
use Rattle.wh_dml_bind.proofs.RowLemmas.{row_whole}
use Rattle.wh_dml_bind.proofs.rows.new_row_from.Goals as goal

pub returns-then-are_all_in_order : goal.returns-then-are_all_in_order
returns-then-are_all_in_order c =
    let is = c.if-are_all_in_order.true in
    let count = c.are_all_in_order.ensures.count is in
    row_whole c.args.columns.now c.args.places.now c.args.scalars.items (c.are_all_in_order.ensures.in_order is)
    (omega (arith, count, c.len-then-len-columns.ensures)) (omega (arith, c.if-len-columns.true, c.len.ensures))
