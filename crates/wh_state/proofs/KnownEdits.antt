-- Edits of a table of three partitions, worked out by hand.
--     standing                       number 3 with the rows 7 and 8, number 5 with 1 and 2, number 6 with 4 and 5
--     emptied, renewed               edits that leave nothing of a partition, and some that leave all rows
use Rattle.std.proofs.Common.{◌≡◌, ℕ, ◌*◌, inl, inr, List, [], ◌∷◌, Some, None, pos, refl, arith}
use Rattle.std.specs.FinMap.{empty, insert, entries}
use Rattle.wh_value.specs.Value.{Number, Row}
use Rattle.wh_frame.specs.Partition.{Partition}
use Rattle.wh_state.specs.Edits.{Edits, numbers_gone, partitions_made, by_rows, without, rows_after}
use Rattle.wh_state.specs.Stored.{rows_of}
use Rattle.wh_state.specs.Orderly.{IsOrderly}
use Rattle.wh_state.proofs.KnownMaps.{map_steps}

abbrev row : ℕ → Row
row k = Number (pos k) ∷ []

-- a partition of two rows with those numbers, in which each row holds ten times its number
abbrev two : ℕ → ℕ → ℕ → Partition
two number first second =
    record { number = number; rows = (first, row (first * 10)) ∷ (second, row (second * 10)) ∷ [] }

abbrev standing : List Partition
standing = two 3 7 8 ∷ two 5 1 2 ∷ two 6 4 5 ∷ []

is_orderly : IsOrderly standing
is_orderly = record {
  numbers = (omega arith, omega arith, (omega arith, omega arith, (omega arith, omega arith, tt)));
  rows = ((omega arith, (omega arith, tt)), ((omega arith, (omega arith, tt)), ((omega arith, (omega arith, tt)), tt)));
  apart = (tt, ((inl (omega arith), tt), ((inr (omega arith), (inl (omega arith), tt)), tt)));
}

rows_in_order : by_rows standing ≡ two 5 1 2 ∷ two 6 4 5 ∷ two 3 7 8 ∷ []
rows_in_order = refl

-- ---- a partition that is left without a row

-- the rows 1 and 2 go, row 8 is changed to an equal one, two rows come
abbrev emptied : Edits
emptied = record { rows = insert (insert (insert empty 8 (Some (row 80))) 1 None) 2 None; added = row 90 ∷ row 91 ∷ [] }

emptied_gone : numbers_gone emptied.rows standing ≡ 3 ∷ 5 ∷ []
emptied_gone = simp map_steps

-- no partition takes its place
emptied_made : partitions_made 7 9 emptied standing
    ≡ two 7 7 8 ∷ record { number = 8; rows = (9, row 90) ∷ (10, row 91) ∷ [] } ∷ []
unfolding partitions_made
emptied_made = simp map_steps

emptied_left : without (numbers_gone emptied.rows standing) standing ≡ two 6 4 5 ∷ []
emptied_left = simp map_steps

emptied_rows : entries (rows_after 9 emptied (rows_of standing))
    ≡ (4, row 40) ∷ (5, row 50) ∷ (7, row 70) ∷ (8, row 80) ∷ (9, row 90) ∷ (10, row 91) ∷ []
unfolding rows_after
emptied_rows = simp map_steps

-- ---- partitions that take the places of others

-- row 8 goes, row 1 is changed, and none comes
abbrev renewed : Edits
renewed = record { rows = insert (insert empty 8 None) 1 (Some (row 11)); added = [] }

renewed_gone : numbers_gone renewed.rows standing ≡ 3 ∷ 5 ∷ []
renewed_gone = simp map_steps

-- by the order of the rows: that of number 5 comes before that of number 3
renewed_made : partitions_made 7 9 renewed standing
    ≡ record { number = 7; rows = (1, row 11) ∷ (2, row 20) ∷ [] } ∷ record { number = 8; rows = (7, row 70) ∷ [] } ∷ []
unfolding partitions_made
renewed_made = simp map_steps

renewed_rows : entries (rows_after 9 renewed (rows_of standing))
    ≡ (1, row 11) ∷ (2, row 20) ∷ (4, row 40) ∷ (5, row 50) ∷ (7, row 70) ∷ []
unfolding rows_after
renewed_rows = simp map_steps

-- ---- other edits

-- a number that no row has touches nothing and brings nothing
abbrev nobody : Edits
nobody = record { rows = insert (insert empty 3 (Some (row 30))) 6 None; added = [] }

nobody_gone : numbers_gone nobody.rows standing ≡ []
nobody_gone = simp map_steps

nobody_made : partitions_made 7 9 nobody standing ≡ []
unfolding partitions_made
nobody_made = simp map_steps

-- rows that come alone leave all partitions
abbrev added : Edits
added = record { rows = empty; added = row 90 ∷ [] }

added_alone : (without (numbers_gone added.rows standing) standing ≡ standing)
    × (partitions_made 7 9 added standing ≡ record { number = 7; rows = (9, row 90) ∷ [] } ∷ [])
unfolding partitions_made
added_alone = (simp map_steps, simp map_steps)
