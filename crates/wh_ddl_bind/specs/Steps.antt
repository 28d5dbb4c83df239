-- Names that new columns may have.
--     is_taken     whether a name is kept for the columns of streams, or comes again among those columns
use Rattle.std.specs.Prelude.{Bool, ◌||◌, List, bytes_eq}
use Rattle.std.specs.List.{list_any}
use Rattle.wh_value.specs.View.{column_of}
use Rattle.wh_value.specs.declared.column.Column.{Column}
use Rattle.wh_naming.specs.Findings.{Name}
use Rattle.wh_ddl_naming.specs.Tables.{is_kept}

abbrev pub is_taken : Name → List Column → Bool
is_taken name columns = is_kept name || list_any (λ c. bytes_eq name (column_of c).name) columns
