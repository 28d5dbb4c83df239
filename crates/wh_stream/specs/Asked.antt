-- The partitions that a read of a standard stream asks for.
--     IsStandard     it shows all changes, and not rows that came alone
--     IsMovedIn      a partition of its table that stands in one alone of the versions at its offset and at the start
--     IsMovedFor     so of the table that is its source
use Rattle.std.specs.Prelude.{◌≡◌, ℕ, ◌<◌, false, Some}
use Rattle.wh_filed.specs.Filed.{Filed}
use Rattle.wh_state.specs.State.{Stream}
use Rattle.wh_state.specs.Stored as machine
use Rattle.wh_state.specs.Objects.{table_at}
use Rattle.wh_version.specs.Moved.{IsMoved}
use Rattle.wh_table.specs.Table.{table_of, filed_of}
use Rattle.wh_table.specs.declared.table.StoredTable.{StoredTable}
use Rattle.wh_catalog.specs.declared.catalog.Catalog.{Catalog}
use Rattle.wh_catalog.specs.Catalog.{stored_of, filed_under}

abbrev pub IsStandard : Stream → Type 0
IsStandard s = s.is_append_only ≡ false

pub record IsMovedIn (t : StoredTable) (s : Stream) (start : ℕ) (f : Filed) : Type 0 where
  pub behind : s.offset < start
  pub moved : IsMoved s.offset start (table_of t).versions (filed_of t) f

pub record IsMovedFor (c : Catalog) (s : Stream) (start : ℕ) (f : Filed) : Type 0 where
  pub behind : s.offset < start
  pub table : machine.StoredTable
  pub source : table_at (stored_of c).objects s.source ≡ Some table
  pub moved : IsMoved s.offset start table.versions (filed_under c s.source) f
