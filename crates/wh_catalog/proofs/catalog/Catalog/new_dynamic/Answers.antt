use Rattle.std.proofs.Common.{Option, ap, ◌∙◌, sym, ◌++◌, ◌∷◌, [], arith}
use Rattle.std.proofs.lemmas.List.{length-map}
use Rattle.wh_value.specs.View.{column_of}
use Rattle.wh_state.specs.Dynamic.{Kept, new_dynamic}
use Rattle.wh_state.specs.State.{new_object, DynamicKind}
use Rattle.wh_state.specs.Commit.{DynamicApplies, changed}
use Rattle.wh_dynamic.specs.Query.{query_of}
use Rattle.wh_record.specs.View.{dynamic_change_of}
use Rattle.wh_table.specs.Table.{kept_table}
use Rattle.wh_catalog.specs.Catalog.{objects_of}
use Rattle.wh_catalog.proofs.DynamicConditions.{never_both, Decides-dynamic_applies}
use Rattle.wh_catalog.proofs.catalog.Catalog.new_dynamic.Goals as goal

pub returns-then-not-applies-clause-not_applicable : goal.returns-then-not-applies-clause-not_applicable
returns-then-not-applies-clause-not_applicable c = λ _ applies.
    let yes = (Decides-dynamic_applies (objects_of c.args.self.now) (dynamic_change_of c.args.change)).1 applies in
    never_both c.in-Ok.applies c.if-not-applies.true (c.in-Ok.ensures ∙ yes)

pub empty-table-requires : goal.empty-table-requires
empty-table-requires c =
    let applies : DynamicApplies (objects_of c.args.self.now) (dynamic_change_of c.args.change) =
    (Decides-dynamic_applies (objects_of c.args.self.now) (dynamic_change_of c.args.change)).0
    (sym c.in-Ok.ensures ∙ c.if-not-applies.false) in
    omega (arith, applies.few_columns, length-map c.args.change.columns.items column_of)

pub returns-clause-applies : goal.returns-clause-applies
returns-clause-applies c =
    (Decides-dynamic_applies (objects_of c.args.self.now) (dynamic_change_of c.args.change)).0
    (sym c.in-Ok.ensures ∙ c.if-not-applies.false)

pub returns-clause-made : goal.returns-clause-made
unfolding changed kept_table
returns-clause-made c =
    let change = c.args.change in
    let made = c.in-Ok-new.ensures.made
    ∙ ap (λ (kept : Option Kept). new_dynamic change.lag change.is_incremental kept (query_of change.query))
    c.in-Ok-kept_for.ensures in
    λ i. objects_of c.args.self.now
    ++ new_object change.name (DynamicKind (made i) (c.empty-table.ensures.table i)) ∷ []
