use Rattle.wh_plan.proofs.WidthLaws.{has_filter, has_join, has_union}
use Rattle.wh_plan.proofs.widths.+width.Goals as goal

pub filtered-returns : goal.filtered-returns
filtered-returns t c = has_filter _ _ _ c.width_of.result c.width_of.ensures

pub joined-returns : goal.joined-returns
joined-returns t c =
    has_join _ _ _ _ _ _ c.checked_add.result c.requires c.in_ok-right.ensures c.checked_add.ensures

pub united-returns-then-width-right : goal.united-returns-then-width-right
united-returns-then-width-right t c = has_union _ _ _ _ _ c.requires c.in_ok-right.ensures c.if-width-right.true
