use Rattle.std.proofs.Common.{ap, ◌∙◌}
use Rattle.wh_state.specs.State.{DynamicKind, new_object}
use Rattle.wh_catalog.specs.Undoable.{object_in}
use Rattle.wh_decide.proofs.dynamic_tables.made.Goals as goal

pub returns-clause-made : goal.returns-clause-made
returns-clause-made c =
    ap object_in c.dynamic_table.ensures.object
    ∙ (λ i. new_object (c.in_ok-name.ensures i) (DynamicKind (c.in_ok-dynamic.ensures i) (c.in_ok-rows.ensures.rows i)))

pub returns-clause-filed : goal.returns-clause-filed
returns-clause-filed c = c.dynamic_table.ensures.filed ∙ c.in_ok-rows.ensures.filed
