-- What edits that are in no version yet make of a table.
use Rattle.std.specs.Prelude.{◌≡◌}
use Rattle.wh_state.specs.Commit.{AllApart}
use Rattle.wh_state.specs.Edits.{Edits, numbers_gone, partitions_made, without}
use Rattle.wh_state.specs.Stored.{StoredTable, standing}
use Rattle.wh_table.specs.declared.editing.EditedTable.{EditedTable}

-- by the cutting rule; what is made is apart from what stays
pub record IsEdited (edited : EditedTable) (e : Edits) (t : StoredTable) : Type 0 where
  pub removed : edited.removed.items ≡ numbers_gone e.rows (standing t)
  pub added : edited.added.items ≡ partitions_made t.next_partition t.next_row e (standing t)
  pub apart : AllApart (without edited.removed.items (standing t)) edited.added.items
