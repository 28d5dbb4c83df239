-- Commits, worked out by hand: their bytes, which of them apply, and what they leave.
use Rattle.std.proofs.Common.{◌≡◌, ℕ, ◌<◌, ◌≤◌, ◌⊎◌, List, [], ◌∷◌, ◌++◌, length, map, true, false, Some, None}
use Rattle.std.proofs.Common.{option_map, pos, inl, inr, refl, arith}
use Rattle.std.specs.Prelude.{codes}
use Rattle.wh_value.specs.Value.{Number}
use Rattle.wh_value.specs.Column.{NumberType, VarcharType, BooleanType}
use Rattle.wh_frame.specs.Partition.{Partition}
use Rattle.wh_frame.specs.Spelling.{partition_bytes, row_bytes, value_bytes}
use Rattle.wh_frame.specs.File.{record_of, records_of}
use Rattle.wh_state.specs.State.{VersionOf, new_table, id_of, live_count, TableKind, table_in}
use Rattle.wh_state.specs.Stored.{StoredTable, StoredObject, Stored, first_stored}
use Rattle.wh_state.specs.Commit.{TableApplies, VersionApplies, Leads, TableChange, VersionChange, CreatesTable, Drops}
use Rattle.wh_state.specs.Commit.{PushesVersion, Commit, changed, applied, Applies}
use Rattle.wh_state.specs.Spelling.{text_payload}
use Rattle.wh_state.specs.Spelling.{payload_of, change_bytes, table_bytes, version_bytes, column_bytes}

-- ---- bytes

-- T(K NUMBER), with the first id
abbrev pub table_t : TableChange
table_t = record {
  id = 1;
  name = codes "T";
  retention = 1;
  columns = (record { name = codes "K"; column_type = NumberType }) ∷ [];
}

-- a partition of one row, by its number and the row's
abbrev pub one_row : ℕ → ℕ → Partition
one_row number row = record { number = number; rows = (row, Number (pos 1) ∷ []) ∷ [] }

-- a version of T with a partition more, and others removed
abbrev pub version_t : ℕ → ℕ → List ℕ → Partition → VersionChange
version_t stamp next_row removed added =
    record { id = 1; data_timestamp = stamp; next_row = next_row; width = 1; removed = removed; added = added ∷ [] }

-- of CREATE TABLE T(K NUMBER) at stamp 1, and of INSERT INTO T VALUES (1) at stamp 2
abbrev pub creation : Commit
creation = record { stamp = 1; changes = CreatesTable table_t ∷ [] }

abbrev pub insertion : Commit
insertion = record { stamp = 2; changes = PushesVersion (version_t 2 2 [] (one_row 1 1)) ∷ [] }

-- the file with the first
created : records_of (payload_of creation ∷ []) ++ 0 ∷ []
    ≡ 87 ∷ 72 ∷ 67 ∷ 79 ∷ 82 ∷ 69 ∷ 49 ∷ 1 ∷ 0 ∷ 0 ∷ 0 ∷ 0 ∷ 0 ∷ 0 ∷ 0 ∷ 33 ∷ 0 ∷ 0 ∷ 0 ∷ 0 ∷ 0 ∷ 0 ∷ 0 ∷ 1 ∷ 0 ∷ 0 ∷ 0
    ∷ 1 ∷ 1 ∷ 0 ∷ 0 ∷ 0 ∷ 1 ∷ 0 ∷ 0 ∷ 0 ∷ 1 ∷ 84 ∷ 1 ∷ 0 ∷ 0 ∷ 0 ∷ 1 ∷ 0 ∷ 0 ∷ 0 ∷ 1 ∷ 75 ∷ 1 ∷ 0 ∷ []
unfolding records_of record_of text_payload change_bytes table_bytes column_bytes
created = refl

-- the record of the second
inserted : record_of (payload_of insertion) ≡
    -- the gate, and the length of the payload
    1 ∷ 0 ∷ 0 ∷ 0 ∷ 0 ∷ 0 ∷ 0 ∷ 0 ∷ 74
    -- the stamp, the count of changes, the tag of a version, and the table's id
    ∷ 0 ∷ 0 ∷ 0 ∷ 0 ∷ 0 ∷ 0 ∷ 0 ∷ 2 ∷ 0 ∷ 0 ∷ 0 ∷ 1 ∷ 10 ∷ 0 ∷ 0 ∷ 0 ∷ 1
    -- the data timestamp, the next row number, and the count of columns
    ∷ 0 ∷ 0 ∷ 0 ∷ 0 ∷ 0 ∷ 0 ∷ 0 ∷ 2 ∷ 0 ∷ 0 ∷ 0 ∷ 0 ∷ 0 ∷ 0 ∷ 0 ∷ 2 ∷ 0 ∷ 0 ∷ 0 ∷ 1
    -- the counts of removed and of added partitions
    ∷ 0 ∷ 0 ∷ 0 ∷ 0 ∷ 0 ∷ 0 ∷ 0 ∷ 1
    -- the partition's number, its count of rows, the row's number, and a number
    ∷ 0 ∷ 0 ∷ 0 ∷ 0 ∷ 0 ∷ 0 ∷ 0 ∷ 1 ∷ 0 ∷ 0 ∷ 0 ∷ 1 ∷ 0 ∷ 0 ∷ 0 ∷ 0 ∷ 0 ∷ 0 ∷ 0 ∷ 1 ∷ 1 ∷ 0 ∷ 0 ∷ 0
    ∷ 0 ∷ 0 ∷ 0 ∷ 0 ∷ 1 ∷ []
unfolding record_of text_payload change_bytes version_bytes partition_bytes row_bytes value_bytes
inserted = refl

lengths : (length (payload_of creation) ≡ 33) × (length (payload_of insertion) ≡ 74)
    × (length (record_of (payload_of insertion)) ≡ 83)
unfolding record_of text_payload change_bytes table_bytes column_bytes version_bytes partition_bytes row_bytes
    value_bytes
lengths = (refl, refl, refl)

-- the numbers of removed partitions have 8 bytes each
removed_bytes : length
    (payload_of (record { stamp = 3; changes = PushesVersion (version_t 3 3 (1 ∷ []) (one_row 2 2)) ∷ [] })) ≡ 82
unfolding text_payload change_bytes version_bytes partition_bytes row_bytes value_bytes
removed_bytes = refl

-- a column's type is its last byte
types : (column_bytes (record { name = codes "K"; column_type = NumberType }) ≡ 0 ∷ 0 ∷ 0 ∷ 1 ∷ 75 ∷ 1 ∷ [])
    × (column_bytes (record { name = codes "K"; column_type = VarcharType }) ≡ 0 ∷ 0 ∷ 0 ∷ 1 ∷ 75 ∷ 2 ∷ [])
    × (column_bytes (record { name = codes "K"; column_type = BooleanType }) ≡ 0 ∷ 0 ∷ 0 ∷ 1 ∷ 75 ∷ 3 ∷ [])
unfolding column_bytes
types = (refl, refl, refl)

-- ---- a commit without changes

abbrev nothing : ℕ → Commit
nothing stamp = record { stamp = stamp; changes = [] }

nothing_length : length (payload_of (nothing 7)) ≡ 12
unfolding text_payload
nothing_length = refl

-- it applies at a later stamp, which is all that it moves
nothing_applies : Applies first_stored (nothing 7)
nothing_applies = record { later = omega arith; within = omega arith; changes = tt; groups = refl }

nothing_moved : (s : Stored) (stamp : ℕ) → applied s (nothing stamp) ≡ record s { last = stamp }
nothing_moved s stamp = refl

-- ---- a table and its first rows at one stamp

abbrev both : Commit
both = record { stamp = 1; changes = CreatesTable table_t ∷ PushesVersion (version_t 1 2 [] (one_row 1 1)) ∷ [] }

abbrev version : ℕ → List Partition → VersionOf (List Partition)
version stamp partitions = record { stamp = stamp; data_timestamp = stamp; content = partitions }

-- what a file says of T, by its next row and partition and its versions
abbrev filed : ℕ → ℕ → ℕ → List (VersionOf (List Partition)) → Stored
filed last next_row next_partition versions = record {
  last = last;
  objects = record {
    name = codes "T";
    is_live = true;
    kind = TableKind (record {
      created = 1;
      columns = table_t.columns;
      retention = 1;
      next_row = next_row;
      next_partition = next_partition;
      versions = versions;
    });
  } ∷ [];
}

both_applied : applied first_stored both ≡ filed 1 2 2 (version 1 [] ∷ version 1 (one_row 1 1 ∷ []) ∷ [])
unfolding changed
both_applied = refl

table_applies : TableApplies [] table_t
table_applies = record {
  object = record { next_id = refl; few = omega arith; free = refl; name = (omega arith, omega arith) };
  some_column = omega arith;
  few_columns = omega arith;
  column_names = ((omega arith, omega arith), tt);
  retention = omega arith;
}

-- T as it is created
abbrev first_table : StoredTable
first_table = new_table [] table_t.columns 1 1

first_rows : (stamp : ℕ) → 1 ≤ stamp → VersionApplies first_table (version_t stamp 2 [] (one_row 1 1))
first_rows stamp later = record {
  timestamp = later;
  width = refl;
  next_row = omega arith;
  next_partition = omega arith;
  removed = tt;
  numbers = (refl, tt);
  rows = (((refl, omega arith), tt), tt);
  apart = (tt, tt);
}

both_apply : Applies first_stored both
unfolding changed
both_apply = record {
  later = omega arith;
  within = omega arith;
  changes = (table_applies, ((refl, first_rows 1 (omega arith)), tt));
  groups = (refl, (refl, refl));
}

-- at two stamps
one_by_one : Leads first_stored
    (creation ∷ insertion ∷ []) (filed 2 2 2 (version 1 [] ∷ version 2 (one_row 1 1 ∷ []) ∷ []))
unfolding changed
one_by_one = (
  record { later = omega arith; within = omega arith; changes = (table_applies, tt); groups = (refl, refl) },
  (
    record {
      later = omega arith;
      within = omega arith;
      changes = ((refl, first_rows 2 (omega arith)), tt);
      groups = (refl, refl);
    },
    refl,
  ),
)

-- ---- a partition that goes

abbrev before : Stored
before = filed 1 2 2 (version 1 [] ∷ version 1 (one_row 1 1 ∷ []) ∷ [])

-- the new partition holds the row of the one that goes
abbrev change_of_row : Commit
change_of_row = record { stamp = 2; changes = PushesVersion (version_t 2 2 (1 ∷ []) (one_row 2 1)) ∷ [] }

row_changed : applied before change_of_row
    ≡ filed 2 2 3 (version 1 [] ∷ version 1 (one_row 1 1 ∷ []) ∷ version 2 (one_row 2 1 ∷ []) ∷ [])
unfolding changed
row_changed = refl

row_change_applies : Applies before change_of_row
row_change_applies = record {
  later = omega arith;
  within = omega arith;
  changes = (
    (
      refl,
      record {
        timestamp = omega arith;
        width = refl;
        next_row = omega arith;
        next_partition = omega arith;
        removed = (refl, tt);
        numbers = (refl, tt);
        rows = (((refl, omega arith), tt), tt);
        apart = (tt, tt);
      },
    ),
    tt,
  );
  groups = (refl, refl);
}

-- with the old partition still there, its row would stand twice
row_twice : Applies before (record { stamp = 2; changes = PushesVersion (version_t 2 2 [] (one_row 2 1)) ∷ [] }) → ⊥
row_twice is = elsewhere is.changes.0.1.apart.0.0
  where
    elsewhere : (1 < 1) ⊎ (1 < 1) → ⊥
    elsewhere (inl before) = absurd (omega arith)
    elsewhere (inr behind) = absurd (omega arith)

-- ---- a table that is dropped

abbrev pub drop : ℕ → Commit
drop stamp = record { stamp = stamp; changes = Drops 1 ∷ [] }

-- the stamp, the count of changes, the tag of a drop, and the table's id
drop_bytes : payload_of (drop 3) ≡ 0 ∷ 0 ∷ 0 ∷ 0 ∷ 0 ∷ 0 ∷ 0 ∷ 3 ∷ 0 ∷ 0 ∷ 0 ∷ 1 ∷ 2 ∷ 0 ∷ 0 ∷ 0 ∷ 1 ∷ []
unfolding text_payload change_bytes
drop_bytes = refl

drop_applies : Applies before (drop 2)
unfolding changed
drop_applies =
    record { later = omega arith; within = omega arith; changes = ((refl, tt), tt); groups = (refl, refl) }

-- it keeps its id and what it holds, and frees its name
dropped_table : (map (λ o. o.is_live) (applied before (drop 2)).objects ≡ false ∷ [])
    × (map (λ o. o.kind) (applied before (drop 2)).objects ≡ map (λ o. o.kind) before.objects)
    × (id_of (codes "T") before.objects ≡ Some 1) × (id_of (codes "T") (applied before (drop 2)).objects ≡ None)
    × (live_count (applied before (drop 2)).objects ≡ 0)
unfolding changed
dropped_table = (refl, refl, refl, refl, refl)

-- only once, with no version behind it, and not an id that there isn't
dropped_once : (Applies (applied before (drop 2)) (drop 3) → ⊥) × (Applies (applied before (drop 2))
    (record { stamp = 3; changes = PushesVersion (version_t 3 3 [] (one_row 2 2)) ∷ [] }) → ⊥)
    × (Applies before (record { stamp = 2; changes = Drops 2 ∷ [] }) → ⊥)
    × (Applies before (record { stamp = 2; changes = Drops 0 ∷ [] }) → ⊥)
unfolding changed
dropped_once =
    (λ is. absurd (cc is.changes.0.0), λ is. absurd (cc is.changes.0.0), λ is. is.changes.0.0, λ is. is.changes.0.0)

-- T again, with the next id
abbrev again : TableChange
again = record table_t { id = 2 }

abbrev pub replacement : ℕ → Commit
replacement stamp = record { stamp = stamp; changes = Drops 1 ∷ CreatesTable again ∷ [] }

again_applies : (objects : List StoredObject) → length objects ≡ 1 → live_count objects ≡ 0
    → id_of (codes "T") objects ≡ None
    → TableApplies objects again
again_applies objects one none free = record {
  object = record { next_id = omega arith; few = omega arith; free = rw free refl; name = (omega arith, omega arith) };
  some_column = omega arith;
  few_columns = omega arith;
  column_names = ((omega arith, omega arith), tt);
  retention = omega arith;
}

-- a new table of the name in the commit that frees it, and of no other
replacement_applies : Applies before (replacement 2)
unfolding changed
replacement_applies = record {
  later = omega arith;
  within = omega arith;
  changes = ((refl, tt), (again_applies (applied before (drop 2)).objects refl refl refl, tt));
  groups = (refl, (refl, refl));
}

name_taken : Applies before (record { stamp = 2; changes = CreatesTable again ∷ [] }) → ⊥
name_taken is = absurd (cc is.changes.0.object.free)

replaced : (map (λ o. o.is_live) (applied before (replacement 2)).objects ≡ false ∷ true ∷ [])
    × (id_of (codes "T") (applied before (replacement 2)).objects ≡ Some 2)
    × (map (λ o. option_map (λ t. t.created) (table_in o.kind)) (applied before (replacement 2)).objects
    ≡ Some 1 ∷ Some 2 ∷ [])
unfolding changed
replaced = (refl, refl, refl)
