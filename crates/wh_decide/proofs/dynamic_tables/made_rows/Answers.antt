use Rattle.std.proofs.Common.{List, length, map, ap, sym, ◌∙◌, arith}
use Rattle.std.proofs.lemmas.List.{length-map}
use Rattle.wh_value.specs.Column.{Column}
use Rattle.wh_value.specs.View.{column_of}
use Rattle.wh_state.specs.State.{empty_table}
use Rattle.wh_decide.proofs.dynamic_tables.made_rows.Goals as goal

pub empty-requires : goal.empty-requires
empty-requires c =
    let same = sym (length-map c.in_ok-columns.columns.items column_of)
    ∙ ap length (c.in_ok-columns.ensures ∙ ap (map column_of) c.deref.ensures.value)
    ∙ length-map c.args.table.now.columns.items column_of in
    omega (arith, c.requires, same)

pub returns-clause-rows : goal.returns-clause-rows
returns-clause-rows c =
    c.empty.ensures.table ∙ ap (λ (columns : List Column). empty_table columns c.args.stamp)
    (c.in_ok-columns.ensures ∙ ap (map column_of) c.deref.ensures.value)
