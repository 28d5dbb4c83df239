-- What a `StoredTable` stands for.
--     kept_table, table_of     with what it takes to take a version back, and what the file says of it
--     filed_of                 each partition of each version, by rising number, as it stands in the file
use Rattle.std.specs.Prelude.{List, map}
use Rattle.wh_value.specs.View.{column_of}
use Rattle.wh_filed.specs.Filed.{Filed}
use Rattle.wh_state.specs.Stored as machine
use Rattle.wh_version.specs.History as history
use Rattle.wh_version.specs.History.{versions_of, nexts_of}
use Rattle.wh_table.specs.declared.table.StoredTable.{StoredTable}
use Rattle.wh_table.specs.Undoable.{KeptTable, table_in}

abbrev pub filed_of : StoredTable → List Filed
filed_of t = history.filed_of t.history

unfoldable pub kept_table : StoredTable → KeptTable
kept_table t = record {
  created = t.created;
  columns = map column_of t.columns.items;
  retention = t.retention;
  starts_empty = t.history.starts_empty;
  next_row = t.next_row;
  versions = versions_of t.history;
  nexts = nexts_of t.history;
  filed = filed_of t;
}

abbrev pub table_of : StoredTable → machine.StoredTable
table_of t = table_in (kept_table t)
