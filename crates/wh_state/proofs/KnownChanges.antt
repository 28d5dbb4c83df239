-- A table T of two rows, 5 with the number 1 and 7 with the number 2, and edits of it, worked out by hand.
--     table_t, filled      the table, and a state with it
--     rewritten            the table after a commit, with the partition that takes the place of the old one
use Rattle.std.proofs.Common.{◌≡◌, ℕ, [], ◌∷◌, map, Some, true, pos, refl}
use Rattle.std.specs.Prelude.{codes}
use Rattle.std.specs.FinMap.{empty, insert, values}
use Rattle.wh_value.specs.Value.{Number, Row}
use Rattle.wh_value.specs.Column.{NumberType}
use Rattle.wh_state.specs.State.{Contents, Table, TableKind, State, Version, nothing_held, version_at, last_rows}
use Rattle.wh_state.specs.State.{last_partitions}
use Rattle.wh_state.specs.Edits.{Edits, rows_after, partitions_made}
use Rattle.wh_state.specs.Act.{edited_table}
use Rattle.wh_state.proofs.KnownMaps.{map_steps}

abbrev pub row : ℕ → Row
row k = Number (pos k) ∷ []

abbrev held : Contents
held = record {
  rows = insert (insert empty 1 (row 5)) 2 (row 7);
  partitions = record { number = 1; rows = (1, row 5) ∷ (2, row 7) ∷ [] } ∷ [];
}

abbrev pub table_t : Table
table_t = record {
  created = 1;
  columns = record { name = codes "K"; column_type = NumberType } ∷ [];
  retention = 1;
  next_row = 3;
  next_partition = 2;
  versions = version_at 1 nothing_held ∷ version_at 2 held ∷ [];
}

abbrev pub filled : State
filled = record {
  last = 3;
  committed = 2;
  objects = record { name = codes "T"; is_live = true; kind = TableKind table_t } ∷ [];
}

-- ---- the table after a commit

abbrev change : Edits
change = record { rows = insert empty 2 (Some (row 8)); added = row 9 ∷ [] }

-- both versions stay; the third has a partition in the place of the one that goes, and one of the row that comes
rewritten : (map (λ p. p.rows) (last_partitions (edited_table 4 4 change table_t))
    ≡ ((1, row 5) ∷ (2, row 8) ∷ []) ∷ ((3, row 9) ∷ []) ∷ [])
    × (map (λ p. p.number) (last_partitions (edited_table 4 4 change table_t)) ≡ 2 ∷ 3 ∷ [])
    × (values (last_rows (edited_table 4 4 change table_t)) ≡ row 5 ∷ row 8 ∷ row 9 ∷ [])
    × ((edited_table 4 4 change table_t).next_row ≡ 4) × ((edited_table 4 4 change table_t).next_partition ≡ 4)
    × (map (λ (version : Version). version.stamp) (edited_table 4 4 change table_t).versions ≡ 1 ∷ 2 ∷ 4 ∷ [])
unfolding edited_table partitions_made rows_after
rewritten = (simp map_steps, simp map_steps, simp map_steps, refl, simp map_steps, refl)
