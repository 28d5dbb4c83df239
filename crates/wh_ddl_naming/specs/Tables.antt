-- CREATE TABLE.
--     NewTable           the table, with the id of the one whose place it takes
--     taken_column       of columns' names the first that comes again, or that is kept for the columns of streams
--     column_findings    what is found wrong with the names of new columns
--     bound_table        of a statement as it is written
use Rattle.std.specs.Prelude.{ℕ, Bool, not, ◌||◌, if◌then◌else◌, List, [], ◌∷◌, map, Option, Some, None, option_map}
use Rattle.std.specs.Prelude.{nat_eq, bytes_eq, codes}
use Rattle.std.specs.List.{list_any, starts_with}
use Rattle.wh_value.specs.Column.{Column}
use Rattle.wh_value.specs.View.{column_of}
use Rattle.wh_ast.specs.declared.statement.CreateTable.{CreateTable}
use Rattle.wh_naming.specs.Findings.{Name, Findings, nothing_found, followed, wrong_kind_if}
use Rattle.wh_naming.specs.Scope.{TableObject, Named, named}
use Rattle.wh_ddl_naming.specs.Meant.{Meant}
use Rattle.wh_ddl_naming.specs.Objects.{Names, of_kind, taken_name}

pub record NewTable : Type 0 where
  pub name : Name
  pub replaced : Option ℕ
  pub columns : List Column
  pub retention : Option ℕ

abbrev pub is_kept : Name → Bool
is_kept name = starts_with nat_eq name (codes "METADATA$")

abbrev pub taken_column : List Name → Option Name
taken_column [] = None
taken_column (name ∷ names) = if is_kept name || list_any (bytes_eq name) names then Some name else taken_column names

abbrev pub column_findings : List Name → Findings
column_findings names = record nothing_found { taken = taken_column names }

-- OR REPLACE takes the place of a table, or of nothing
abbrev pub replace_findings : Name → Option Named → Findings
replace_findings name None = nothing_found
replace_findings name (Some object) = wrong_kind_if (not (of_kind TableObject object)) name

abbrev pub new_table : CreateTable → Option Named → NewTable
new_table t replaced = record {
  name = t.name;
  replaced = option_map (λ object. object.id) replaced;
  columns = map column_of t.columns;
  retention = t.retention;
}

abbrev pub column_names : List Column → List Name
column_names columns = map (λ column. column.name) columns

abbrev pub bound_table : Names → CreateTable → Meant NewTable
bound_table names t = over (named names.objects t.name) (column_findings (column_names (map column_of t.columns)))
  where
    over : Option Named → Findings → Meant NewTable
    over live columns = if t.replace
        then (record {
          value = new_table t live;
          taken_object = None;
          findings = followed (replace_findings t.name live) columns;
        })
        else (record { value = new_table t None; taken_object = taken_name names t.name; findings = columns })
