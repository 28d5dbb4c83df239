-- What contracts say of a change.
--     is_insert       a change that looks at no row of its target
--     comes_to        what a change comes to in a session
--     IsTableOf       the table of an id in the catalog
use Rattle.std.specs.Prelude.{◌≡◌, ℕ, Bool, true, false, Some}
use Rattle.wh_naming.specs.Changes.{Modification, InsertRows, InsertQuery}
use Rattle.wh_state.specs.Objects.{table_at}
use Rattle.wh_table.specs.Table.{table_of}
use Rattle.wh_table.specs.declared.table.StoredTable.{StoredTable}
use Rattle.wh_catalog.specs.Catalog.{stored_of}
use Rattle.wh_machine.specs.Changes.{Changed}
use Rattle.wh_machine.specs.Sessions.{transaction_in}
use Rattle.wh_machine.specs.Outcome.{Outcome}
use Rattle.wh_machine.specs.Statements.{changes_in}
use Rattle.wh_decide.specs.declared.sight.Sight.{Sight}
use Rattle.wh_decide.specs.Sight.{machine_in}

abbrev pub is_insert : Modification → Bool
is_insert (InsertRows rows) = true
is_insert (InsertQuery query parts) = true
is_insert _ = false

abbrev pub comes_to : Sight → Changed → Outcome
comes_to sight change =
    changes_in (machine_in sight) sight.session (transaction_in (machine_in sight).sessions sight.session) change

abbrev pub IsTableOf : Sight → ℕ → StoredTable → Type 0
IsTableOf sight id table = table_at (stored_of sight.catalog.now).objects id ≡ Some (table_of table)
