-- Tables with what it takes to take a version back.
--     KeptTable      a table with the number that its next partition had after each version, whether it was created
--                    without one, and each partition of each version as it stands in the file
--     table_in       what the file says of it
--     taken_back     the table without its last version
use Rattle.std.specs.Prelude.{ℕ, ◌-◌, Bool, List, take}
use Rattle.wh_value.specs.Column.{Column}
use Rattle.wh_filed.specs.Filed.{Filed}
use Rattle.wh_state.specs.Stored.{StoredVersion, StoredTable}
use Rattle.wh_version.specs.Lists.{shortened}
use Rattle.wh_version.specs.History.{next_in, popped}

pub record KeptTable : Type 0 where
  pub created : ℕ
  pub columns : List Column
  pub retention : ℕ
  pub starts_empty : Bool
  pub next_row : ℕ
  pub versions : List StoredVersion
  pub nexts : List ℕ
  pub filed : List Filed

abbrev pub table_in : KeptTable → StoredTable
table_in t = record {
  created = t.created;
  columns = t.columns;
  retention = t.retention;
  next_row = t.next_row;
  next_partition = next_in t.nexts;
  versions = t.versions;
}

-- the next row is that of before
abbrev pub taken_back : ℕ → KeptTable → KeptTable
taken_back next_row t = record t {
  next_row = next_row;
  versions = popped t.starts_empty t.versions;
  nexts = shortened t.nexts;
  filed = take (next_in (shortened t.nexts) - 1) t.filed;
}
