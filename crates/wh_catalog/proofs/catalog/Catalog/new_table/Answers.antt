use Rattle.std.proofs.Common.{◌∙◌, ap, sym, ◌++◌, ◌∷◌, []}
use Rattle.wh_state.specs.State.{new_object, TableKind}
use Rattle.wh_state.specs.Commit.{changed}
use Rattle.wh_record.specs.View.{table_change_of}
use Rattle.wh_table.specs.Table.{kept_table}
use Rattle.wh_catalog.specs.Catalog.{objects_of}
use Rattle.wh_catalog.proofs.Conditions.{Decides-table_applies}
use Rattle.wh_catalog.proofs.catalog.Catalog.new_table.Goals as goal

pub returns-then-not-table_applies-clause-not_applicable : goal.returns-then-not-table_applies-clause-not_applicable
returns-then-not-table_applies-clause-not_applicable c = λ _ applies.
    let yes = (Decides-table_applies (objects_of c.args.self.now) (table_change_of c.args.change)).1 applies in cc

pub returns-clause-applies : goal.returns-clause-applies
returns-clause-applies c = (Decides-table_applies (objects_of c.args.self.now) (table_change_of c.args.change)).0
    (sym c.table_applies.ensures ∙ c.if-not-table_applies.false)

pub returns-clause-made : goal.returns-clause-made
unfolding changed kept_table
returns-clause-made c =
    ap (λ t. objects_of c.args.self.now ++ new_object c.args.change.name (TableKind t) ∷ [])
    c.new-table.ensures.table
