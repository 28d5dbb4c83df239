use Rattle.std.proofs.Common.{◌≡◌, take}
use Rattle.wh_copy.proofs.expr.+copy.Given as goal

abbrev pub invariant-copy_exprs-loop-item : goal.invariant-copy_exprs-loop-item
invariant-copy_exprs-loop-item l = l.copies ≡ take l.item-index l.items
