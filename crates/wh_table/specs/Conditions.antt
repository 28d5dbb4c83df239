-- When a new version applies, as tests.
--     version_applies      whether it applies to its table
--     rises_above          whether the row numbers of each partition lie above a bound and above those before it
use Rattle.std.specs.Prelude.{ℕ, ◌+◌, max, Bool, true, ◌&&◌, ◌==◌, List, [], ◌∷◌, length, nat_lt, nat_le, nat_eq}
use Rattle.std.specs.Prelude.{Option, Some, None, option_map}
use Rattle.std.specs.List.{list_all, list_any}
use Rattle.wh_value.specs.Value.{Row}
use Rattle.wh_value.specs.Column.{Column}
use Rattle.wh_value.specs.Fits.{row_fits}
use Rattle.wh_value.specs.Limit.{bound}
use Rattle.wh_value.specs.declared.limit.Limit.TheVariants as limits
use Rattle.wh_frame.specs.Partition.{Partition, first_number, last_number}
use Rattle.wh_state.specs.State.{last_of}
use Rattle.wh_state.specs.Stored.{StoredTable, standing}
use Rattle.wh_state.specs.Commit.{VersionChange}
use Rattle.wh_state.specs.Edits.{without}
use Rattle.wh_version.specs.Lasting.{numbered_from}
use Rattle.wh_table.specs.Apart.{all_apart}

abbrev pub does_not_fall : Option ℕ → ℕ → Bool
does_not_fall None timestamp = true
does_not_fall (Some last) timestamp = nat_le last timestamp

abbrev pub is_standing_number : List Partition → ℕ → Bool
is_standing_number partitions number = list_any (λ p. nat_eq number p.number) partitions

abbrev pub entry_fits : List Column → ℕ → ℕ × Row → Bool
entry_fits columns next e = row_fits columns e.1 && nat_lt e.0 next

abbrev pub partition_fits : List Column → ℕ → Partition → Bool
partition_fits columns next p = list_all (entry_fits columns next) p.rows

abbrev pub rises_above : ℕ → List Partition → Bool
rises_above bound [] = true
rises_above bound (p ∷ ps) = nat_lt bound (first_number p.rows) && rises_above (max bound (last_number p.rows)) ps

abbrev pub is_formed : StoredTable → VersionChange → Bool
is_formed t c =
    does_not_fall (option_map (λ v. v.data_timestamp) (last_of t.versions)) c.data_timestamp
    && ((c.width == length t.columns) && (nat_le c.next_row (bound limits.RowNumber)
    && nat_le (t.next_partition + length c.added) (bound limits.PartitionNumber)))

abbrev pub partitions_apply : StoredTable → VersionChange → Bool
partitions_apply t c =
    list_all (is_standing_number (standing t)) c.removed && (numbered_from t.next_partition c.added
    && (list_all (partition_fits t.columns c.next_row) c.added && all_apart (without c.removed (standing t)) c.added))

abbrev pub version_applies : StoredTable → VersionChange → Bool
version_applies t c = is_formed t c && partitions_apply t c
