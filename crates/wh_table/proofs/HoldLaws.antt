-- What the partitions of a table's versions hold.
--     holds_last, holds_at     those of the last version, and of the last one up to a moment
--     holds_beside             those that stay beside edits, and those that the edits add
--     held_bag                 the bag of all their rows, one after the other, is that of the rows that they hold
use Rattle.std.proofs.Common.{◌≡◌, ℕ, List, [], ◌++◌, sym, ap, subst, ◌∙◌}
use Rattle.std.specs.List.{AllByRecursion}
use Rattle.std.specs.FinMap.{values}
use Rattle.wh_meaning.specs.Bag.{bag_of}
use Rattle.wh_frame.specs.Partition.{Partition}
use Rattle.wh_state.specs.State.{Rows, content_in, last_rows, rows_at}
use Rattle.wh_state.specs.Commit.{AllApart}
use Rattle.wh_state.specs.Edits.{Edits}
use Rattle.wh_state.specs.Act.{edited_table}
use Rattle.wh_state.specs.Orderly.{HasRisingRows}
use Rattle.wh_state.specs.Stored.{table_meant, rows_of}
use Rattle.wh_version.specs.History.{versions_of, standing_in}
use Rattle.wh_version.specs.Times.{data_at}
use Rattle.wh_table.specs.declared.editing.EditedTable.{EditedTable}
use Rattle.wh_table.specs.declared.table.StoredTable.{StoredTable}
use Rattle.wh_table.specs.Edited.{IsEdited}
use Rattle.wh_table.specs.Rows.{rows_only, all_rows}
use Rattle.wh_table.specs.Shown.{HoldsRising}
use Rattle.wh_table.specs.Table.{kept_table, table_of}
use Rattle.wh_table.proofs.Apart.{Decides-all_apart}
use Rattle.wh_table.proofs.ChangedRows.{found_apart, found_rising}
use Rattle.wh_table.proofs.Edited.{parts_after, edited_rows, edited_apart, edited_rising}
use Rattle.wh_table.proofs.MomentRows.{rows_meant}
use Rattle.wh_table.proofs.Pushed.{last_apart, last_meant}
use Rattle.wh_table.proofs.Rising.{all_rising, last_rising}
use Rattle.wh_table.proofs.TableBag.{parts_are}

pub holds_last : (t : StoredTable) (ps : List Partition) → ps ≡ standing_in (versions_of t.history)
    → HoldsRising ps (last_rows (table_meant (table_of t)))
unfolding kept_table
holds_last t ps is =
    let standing = standing_in (versions_of t.history) in
    let apart = (Decides-all_apart [] standing).0 (last_apart (versions_of t.history) t.apart) in
    record {
      holds = record {
        apart = subst (AllApart []) (sym is) apart;
        rows = ap rows_of is ∙ sym (last_meant (versions_of t.history));
      };
      rising = subst (AllByRecursion HasRisingRows) (sym is)
          (all_rising standing (last_rising (versions_of t.history) t.rising));
    }

pub holds_at : (t : StoredTable) (moment : ℕ) (ps : List Partition)
    → ps ≡ content_in [] (data_at moment (versions_of t.history))
    → HoldsRising ps (rows_at (table_meant (table_of t)) moment)
unfolding kept_table
holds_at t moment ps is = record {
  holds = record {
    apart = subst (AllApart []) (sym is) (found_apart moment (versions_of t.history) t.apart);
    rows = ap rows_of is ∙ sym (rows_meant (table_of t) moment);
  };
  rising = subst (AllByRecursion HasRisingRows) (sym is) (found_rising moment (versions_of t.history) t.rising);
}

pub holds_beside : (t : StoredTable) (edited : EditedTable) (e : Edits) (stamp : ℕ) (ps : List Partition)
    → IsEdited edited e (table_of t) → ps ++ edited.added.items ≡ parts_after t edited
    → HoldsRising (ps ++ edited.added.items) (last_rows (edited_table stamp stamp e (table_meant (table_of t))))
unfolding kept_table
holds_beside t edited e stamp ps edit is = record {
  holds = record {
    apart = subst (AllApart []) (sym is) (edited_apart t edited e edit);
    rows = ap rows_of is ∙ edited_rows t edited e edit stamp;
  };
  rising = subst (AllByRecursion HasRisingRows) (sym is) (edited_rising t edited e edit);
}

pub held_bag : (ps : List Partition) (rows : Rows) → HoldsRising ps rows
    → bag_of (rows_only (all_rows ps)) ≡ bag_of (values rows)
held_bag ps rows holds = sym (parts_are ps holds.holds.apart holds.rising)
    ∙ ap (λ (m : Rows). bag_of (values m)) holds.holds.rows
