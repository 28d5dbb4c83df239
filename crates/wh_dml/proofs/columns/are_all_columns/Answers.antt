use Rattle.std.proofs.Common.{◌∙◌, sym}
use Rattle.std.proofs.lemmas.List.{length-map}
use Rattle.wh_scalar.specs.View.{scalar_of}
use Rattle.wh_algebra.specs.View.{scalars_of}
use Rattle.wh_dml.proofs.ColumnLaws.{columns_over}
use Rattle.wh_dml.proofs.columns.are_all_columns.Goals as goal

pub returns-then-are_columns : goal.returns-then-are_columns
returns-then-are_columns c = λ are_wide.
    columns_over (scalars_of c.args.parts.now) c.args.rows.now _
    (sym c.are_columns.ensures ∙ c.if-are_columns.true) (sym c.have_width.ensures ∙ are_wide)
    (sym (length-map c.args.parts.now scalar_of))
