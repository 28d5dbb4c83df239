use Rattle.std.proofs.Common.{◌≡◌, ◌++◌, take, map}
use Rattle.std.specs.List.{flat_map, AllByRecursion}
use Rattle.wh_state.specs.Spelling.{column_bytes, IsColumn}
use Rattle.wh_value.specs.View.{column_of}
use Rattle.wh_record.proofs.encoding.write_each_column.Given as goal

-- the columns so far are written, and their names are texts
abbrev pub invariant-loop-column : goal.invariant-loop-column
invariant-loop-column l = record {
  written : l.out ≡ l.fn.out ++ flat_map column_bytes (map column_of (take l.column-index l.columns));
  spelled : AllByRecursion IsColumn (map column_of (take l.column-index l.columns));
}
