-- When a new object applies, as tests.
--     is_new_object       whether an id and a name are those of a new object
--     table_applies       whether a new table applies
--     is_live_table       whether an object is a table or a dynamic table that lives, as the source of a new stream is
--     is_table_at         whether an object is a table, as the source of a stream that shows added rows alone is
use Rattle.std.specs.Prelude.{ℕ, ◌+◌, Bool, not, false, ◌&&◌, ◌==◌, List, length, Option, Some, None, is_some, nat_lt}
use Rattle.std.specs.Prelude.{nat_le}
use Rattle.std.specs.List.{list_all}
use Rattle.wh_value.specs.Column.{Column}
use Rattle.wh_value.specs.Limit.{bound}
use Rattle.wh_value.specs.declared.limit.Limit.TheVariants as limits
use Rattle.std.specs.Option.{option_map_or}
use Rattle.wh_state.specs.State.{id_of, live_count, table_in}
use Rattle.wh_state.specs.Objects.{is_table}
use Rattle.wh_state.specs.Stored.{StoredObject}
use Rattle.wh_state.specs.Commit.{TableChange}

abbrev pub is_stored_name : List ℕ → Bool
is_stored_name name = nat_lt 0 (length name) && nat_le (length name) (bound limits.Name)

abbrev pub is_stored_column : Column → Bool
is_stored_column column = is_stored_name column.name

abbrev pub are_stored_columns : List Column → Bool
are_stored_columns columns = nat_lt 0 (length columns)
    && (nat_le (length columns) (bound limits.Columns) && list_all is_stored_column columns)

abbrev pub is_new_object : List StoredObject → ℕ → List ℕ → Bool
is_new_object objects id name =
    (id == length objects + 1)
    && (nat_lt (live_count objects) (bound limits.Objects)
    && (not (is_some (id_of name objects)) && is_stored_name name))

abbrev pub table_applies : List StoredObject → TableChange → Bool
table_applies objects c =
    is_new_object objects c.id c.name
    && (nat_le c.retention (bound limits.Retention) && are_stored_columns c.columns)

abbrev pub is_live_table : Option StoredObject → Bool
is_live_table None = false
is_live_table (Some o) = o.is_live && is_some (table_in o.kind)

abbrev pub is_table_at : Option StoredObject → Bool
is_table_at found = option_map_or (λ o. is_table o.kind) found false
