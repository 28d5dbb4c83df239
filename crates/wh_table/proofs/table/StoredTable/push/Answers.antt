use Rattle.std.proofs.Common.{◌∙◌, sym}
use Rattle.wh_record.specs.View.{version_change_of}
use Rattle.wh_table.specs.Table.{table_of}
use Rattle.wh_table.proofs.Conditions.{Decides-version_applies}
use Rattle.wh_table.proofs.table.StoredTable.push.Goals as goal

pub returns-then-not-takes-clause-not_applicable : goal.returns-then-not-takes-clause-not_applicable
returns-then-not-takes-clause-not_applicable c = λ _ applies.
    let yes = (Decides-version_applies (table_of c.args.self.now) (version_change_of c.args.change)).1 applies in
    cc (c.takes.ensures, c.if-not-takes.true)

pub add_version-requires : goal.add_version-requires
add_version-requires c = (Decides-version_applies (table_of c.args.self.now) (version_change_of c.args.change)).0
    (sym c.takes.ensures ∙ c.if-not-takes.false)

pub returns-in-Ok-clause-applies : goal.returns-in-Ok-clause-applies
returns-in-Ok-clause-applies c =
    (Decides-version_applies (table_of c.args.self.now) (version_change_of c.args.change)).0
    (sym c.takes.ensures ∙ c.if-not-takes.false)
