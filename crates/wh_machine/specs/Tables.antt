-- Tables: CREATE TABLE, also OR REPLACE, and DROP TABLE.
--     create_table, drop_table     their outcomes
use Rattle.std.specs.Prelude.{ℕ, List, [], ◌∷◌, ◌++◌, length, Option, Some, None, unwrap_or}
use Rattle.std.specs.List.{list_any}
use Rattle.wh_value.specs.declared.limit.Limit.TheVariants as limits
use Rattle.wh_ddl_naming.specs.Tables.{NewTable, column_names}
use Rattle.wh_reply.specs.Reply.{Refusal, OverLimit, CreatedTable, DroppedTable}
use Rattle.wh_state.specs.State.{State}
use Rattle.wh_state.specs.Act.{Act, MakesTable, DropsObject}
use Rattle.wh_state.specs.Objects.{name_at}
use Rattle.wh_machine.specs.Tests.{refused_if, refused_past, first_of}
use Rattle.wh_machine.specs.Outcome.{Machine, Outcome, commits, unless}
use Rattle.wh_machine.specs.Definitions.{drops, is_long, count_refusals}

abbrev pub one_if : Option ℕ → ℕ
one_if None = 0
one_if (Some id) = 1

-- in days; one where none is written
abbrev pub retention_of : NewTable → ℕ
retention_of n = unwrap_or n.retention 1

-- the first test that a new table fails, behind those of names
unfoldable pub table_refusal : State → Option Refusal → NewTable → Option Refusal
table_refusal s wrong n = first_of (
    wrong
    ∷ count_refusals s (one_if n.replaced)
    ++ refused_if (list_any is_long (n.name ∷ column_names n.columns)) (OverLimit limits.Name)
    ∷ refused_past limits.Columns (length n.columns)
    ∷ refused_past limits.Retention (retention_of n)
    ∷ [])

-- a table that is replaced goes in the same commit
abbrev pub table_made : NewTable → List Act
table_made n = drops n.replaced ++ MakesTable n.name n.columns (retention_of n) ∷ []

unfoldable pub create_table : Machine → Option Refusal → NewTable → Outcome
create_table m wrong n =
    unless (table_refusal m.state wrong n) (commits m (CreatedTable n.name) (table_made n))

unfoldable pub drop_table : Machine → Option Refusal → ℕ → Outcome
drop_table m wrong id =
    unless wrong (commits m (DroppedTable (name_at m.state.objects id)) (DropsObject id ∷ []))
