-- The test says whether a new version applies.
use Rattle.std.proofs.Common.{◌≡◌, ℕ, ◌+◌, ◌≤◌, Bool, List, [], ◌∷◌, length, Option, Some, None, IsTrue, refl}
use Rattle.std.specs.Bool.{Decides}
use Rattle.std.specs.Prelude.{nat_le, option_map}
use Rattle.std.specs.List.{AllByRecursion}
use Rattle.std.proofs.lemmas.Bool.{leb-true, le-leb}
use Rattle.std.proofs.lemmas.Bool.Decides.{Decides-and, Decides-eqb, Decides-ltb, Decides-like}
use Rattle.wh_value.specs.Column.{Column}
use Rattle.wh_value.specs.Fits.{row_fits}
use Rattle.wh_value.specs.Limit.{bound}
use Rattle.wh_value.specs.declared.limit.Limit.TheVariants as limits
use Rattle.wh_frame.specs.Partition.{Partition}
use Rattle.wh_state.specs.State.{last_of}
use Rattle.wh_state.specs.Stored.{StoredVersion, StoredTable, standing}
use Rattle.wh_state.specs.Commit.{VersionChange, NumberedFrom, RowsFit, Stands, DoesNotFall, AllApart, VersionApplies}
use Rattle.wh_state.specs.Edits.{without}
use Rattle.wh_version.specs.Lasting.{numbered_from}
use Rattle.wh_table.specs.Conditions.{entry_fits, partition_fits, does_not_fall, is_standing_number, is_formed}
use Rattle.wh_table.specs.Conditions.{partitions_apply, version_applies}
use Rattle.wh_table.proofs.Apart.{Decides-list_all, Decides-all_apart}

pub Decides-leb : (a b : ℕ) → Decides (nat_le a b) (a ≤ b)
Decides-leb a b = (leb-true a b, le-leb a b)

Decides-true : (b : Bool) → Decides b (IsTrue b)
Decides-true b = (λ h. h, λ h. h)

Decides-numbered_from : (next : ℕ) (ps : List Partition) → Decides (numbered_from next ps) (NumberedFrom next ps)
Decides-numbered_from next [] = (λ _. tt, λ _. refl)
Decides-numbered_from next (p ∷ ps) = Decides-and _ _ (Decides-eqb p.number next) (Decides-numbered_from (next + 1) ps)

Decides-partition_fits : (columns : List Column) (next : ℕ) (p : Partition)
    → Decides (partition_fits columns next p) (RowsFit columns next p)
Decides-partition_fits columns next p =
    Decides-list_all (entry_fits columns next) _
    (λ e. Decides-and _ _ (Decides-true (row_fits columns e.1)) (Decides-ltb e.0 next)) p.rows

Decides-does_not_fall : (last : Option StoredVersion) (timestamp : ℕ)
    → Decides (does_not_fall (option_map (λ v. v.data_timestamp) last) timestamp) (DoesNotFall last timestamp)
Decides-does_not_fall None timestamp = (λ _. tt, λ _. refl)
Decides-does_not_fall (Some v) timestamp = Decides-leb v.data_timestamp timestamp

Decides-formed : (t : StoredTable) (c : VersionChange)
    → Decides (is_formed t c) (DoesNotFall (last_of t.versions) c.data_timestamp × ((c.width ≡ length t.columns)
    × ((c.next_row ≤ bound limits.RowNumber) × (t.next_partition + length c.added ≤ bound limits.PartitionNumber))))
Decides-formed t c =
    Decides-and _ _ (Decides-does_not_fall (last_of t.versions) c.data_timestamp)
    (Decides-and _ _ (Decides-eqb c.width (length t.columns))
    (Decides-and _ _ (Decides-leb c.next_row (bound limits.RowNumber))
    (Decides-leb (t.next_partition + length c.added) (bound limits.PartitionNumber))))

Decides-partitions : (t : StoredTable) (c : VersionChange)
    → Decides (partitions_apply t c)
    (AllByRecursion (Stands (standing t)) c.removed × (NumberedFrom t.next_partition c.added
    × (AllByRecursion (RowsFit t.columns c.next_row) c.added × AllApart (without c.removed (standing t)) c.added)))
Decides-partitions t c =
    Decides-and _ _ (Decides-list_all (is_standing_number (standing t)) _
    (λ number. Decides-true (is_standing_number (standing t) number)) c.removed)
    (Decides-and _ _ (Decides-numbered_from t.next_partition c.added)
    (Decides-and _ _
    (Decides-list_all (partition_fits t.columns c.next_row) _ (Decides-partition_fits t.columns c.next_row) c.added)
    (Decides-all_apart (without c.removed (standing t)) c.added)))

pub Decides-version_applies : (t : StoredTable) (c : VersionChange) → Decides (version_applies t c) (VersionApplies t c)
Decides-version_applies t c =
    Decides-like (version_applies t c)
    (λ h. record {
      timestamp = h.0.0;
      width = h.0.1.0;
      next_row = h.0.1.1.0;
      next_partition = h.0.1.1.1;
      removed = h.1.0;
      numbers = h.1.1.0;
      rows = h.1.1.1.0;
      apart = h.1.1.1.1;
    })
    (λ a. ((a.timestamp, (a.width, (a.next_row, a.next_partition))), (a.removed, (a.numbers, (a.rows, a.apart)))))
    (Decides-and _ _ (Decides-formed t c) (Decides-partitions t c))
