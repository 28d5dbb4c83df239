-- A table with edits that are in no version yet.
--     parts_after      the partitions that stay, and behind them those that are made
--     edited_rows      the rows of the partitions that stay and of those that are made are the rows after the edits
--     edited_apart     these partitions are apart
--     edited_rising    the row numbers of each rise
use Rattle.std.proofs.Common.{◌≡◌, ℕ, List, ◌∷◌, [], ◌++◌, ap, sym, subst, ◌∙◌}
use Rattle.std.specs.Prelude.{not}
use Rattle.std.specs.List.{AllByRecursion}
use Rattle.wh_state.specs.State.{last_of, content_in, last_rows}
use Rattle.wh_state.specs.Commit.{AllApart, pushed}
use Rattle.wh_state.specs.Edits.{Edits, without, is_among}
use Rattle.wh_state.specs.Act.{edited_table}
use Rattle.wh_state.specs.Stored.{StoredVersion, standing, rows_of, table_meant}
use Rattle.wh_state.specs.Written.{version_change}
use Rattle.wh_state.specs.Orderly.{HasRisingRows, IsOrderly}
use Rattle.wh_state.proofs.ActLaws.{edited_meant, orderly_standing}
use Rattle.wh_state.proofs.AllLaws.{all_filter}
use Rattle.wh_state.proofs.MeaningLaws.{last_rows_meant}
use Rattle.wh_state.proofs.PartLaws.{made_rise}
use Rattle.wh_frame.specs.Partition.{Partition}
use Rattle.wh_version.specs.History.{versions_of, standing_in}
use Rattle.wh_table.specs.declared.editing.EditedTable.{EditedTable}
use Rattle.wh_table.specs.declared.table.StoredTable.{StoredTable}
use Rattle.wh_table.specs.Edited.{IsEdited}
use Rattle.wh_table.specs.Table.{kept_table, table_of}
use Rattle.wh_table.proofs.Apart.{Decides-all_apart, changed_apart}
use Rattle.wh_table.proofs.OrderlyTables.{orderly_table}
use Rattle.wh_table.proofs.Pushed.{last_apart, last_of-push}
use Rattle.wh_table.proofs.StandingLaws.{each_more}

abbrev pub parts_after : StoredTable → EditedTable → List Partition
parts_after t edited = without edited.removed.items (standing_in (versions_of t.history)) ++ edited.added.items

module _ (t : StoredTable) (edited : EditedTable) (e : Edits) (is : IsEdited edited e (table_of t)) where
  pub edited_rows : (stamp : ℕ) → rows_of (without edited.removed.items (standing (table_of t)) ++ edited.added.items)
      ≡ last_rows (edited_table stamp stamp e (table_meant (table_of t)))
  edited_rows stamp =
      let new : StoredVersion = record {
        stamp = stamp;
        data_timestamp = stamp;
        content = without edited.removed.items (standing (table_of t)) ++ edited.added.items;
      } in
      ap (λ last. rows_of (content_in [] last)) (sym (last_of-push (table_of t).versions new))
      ∙ (λ i. rows_of (content_in [] (last_of ((table_of t).versions ++ (record {
        stamp = stamp;
        data_timestamp = stamp;
        content = without (is.removed i) (standing (table_of t)) ++ is.added i;
      }) ∷ []))))
      ∙ sym (last_rows_meant (pushed stamp (version_change stamp 0 e (table_of t)) (table_of t)))
      ∙ ap last_rows (edited_meant stamp stamp 0 e (table_of t) (orderly_standing (table_of t) (orderly_table t)))

  pub edited_apart : AllApart [] (without edited.removed.items (standing (table_of t)) ++ edited.added.items)
  unfolding kept_table
  edited_apart =
      (Decides-all_apart [] (without edited.removed.items (standing (table_of t)) ++ edited.added.items)).0
      (changed_apart edited.removed.items (standing (table_of t)) edited.added.items
      (last_apart (versions_of t.history) t.apart) is.apart)

  pub edited_rising : AllByRecursion HasRisingRows
      (without edited.removed.items (standing (table_of t)) ++ edited.added.items)
  edited_rising =
      let t' = table_of t in
      let stood : IsOrderly (standing t') = orderly_standing t' (orderly_table t) in
      each_more HasRisingRows (without edited.removed.items (standing t')) edited.added.items
      (all_filter HasRisingRows (λ p. not (is_among p.number edited.removed.items)) (standing t') stood.rows)
      (subst (AllByRecursion HasRisingRows) (sym is.added)
      (made_rise t'.next_partition t'.next_row e (standing t') stood.rows))
