use Rattle.std.proofs.lemmas.Result.{on_ok_weaker}
use Rattle.wh_value.proofs.InOrder.{in_order_unique}
use Rattle.wh_value.proofs.row.sort_rows.Goals as goal

pub returns-clause-ok : goal.returns-clause-ok
returns-clause-ok c = on_ok_weaker _ (λ up. in_order_unique _ _ c.sort.ensures.permutation up) c.sort.ensures.sorted
