use Rattle.std.proofs.Common.{◌≡◌, List, Bool, false, map, ap, sym, ◌∙◌}
use Rattle.std.specs.Prelude.{◌||◌}
use Rattle.std.specs.List.{list_any}
use Rattle.wh_value.specs.Column.{Column}
use Rattle.wh_value.specs.View.{column_of}
use Rattle.wh_value.specs.declared.column.Column as code
use Rattle.wh_version.proofs.Touched.{any-map}
use Rattle.wh_machine.specs.Definitions.{is_long}
use Rattle.wh_decide.proofs.dynamic_tables.has_long_name.Goals as goal

pub returns-else-is_long : goal.returns-else-is_long
returns-else-is_long c =
    let t = c.args.table.now in
    let columns = t.columns.items in
    let short : is_long t.name ≡ false = sym c.is_long.ensures ∙ c.if-is_long.false in
    c.some_is_long.ensures
    ∙ ap (λ (held : List code.Column). list_any (λ column. is_long (column_of column).name) held) c.deref.ensures.value
    ∙ any-map column_of (λ (column : Column). is_long column.name) columns
    ∙ any-map (λ (column : Column). column.name) is_long (map column_of columns)
    ∙ ap (λ (b : Bool). b || list_any is_long (map (λ (column : Column). column.name) (map column_of columns)))
    (sym short)
