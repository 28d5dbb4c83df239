-- Edits of a table's rows, and the cutting rule: the partitions that they leave behind.
--     Edits, edits_from    new rows by their numbers, or None for those that go; and the rows that come
--     rows_after           a version's rows after edits
--     no_edits             nothing goes, changes or comes
--     later_edits          edits on top of earlier ones
--     numbers_gone         the partitions with a row that the edits name
--     partitions_made      those that take their places, and those of the rows that come
--     contents_after       what a version then holds
use Rattle.std.specs.Prelude.{ℕ, ◌+◌, Bool, not, if◌then◌else◌, List, [], ◌∷◌, ◌++◌, length, map, Option, Some, None}
use Rattle.std.specs.Prelude.{is_some, nat_eq, nat_lt}
use Rattle.std.specs.List.{filter, flat_map, list_any}
use Rattle.std.specs.FinMap.{FinMap, empty, get, insert, entries}
use Rattle.std.specs.Ordering.{nat_cmp}
use Rattle.wh_value.specs.Value.{Row}
use Rattle.wh_frame.specs.Partition.{Partition, first_number, numbered, cut}
use Rattle.wh_state.specs.State.{Rows, Contents, with_entries}

-- by row numbers: a new row, or None
abbrev pub RowEdits : Type 0
RowEdits = FinMap nat_cmp (Option Row)

pub record Edits : Type 0 where
  pub rows : RowEdits
  pub added : List Row

abbrev pub with_removed : RowEdits → List ℕ → RowEdits
with_removed edits [] = edits
with_removed edits (number ∷ numbers) = with_removed (insert edits number None) numbers

abbrev pub with_changed : RowEdits → List (ℕ × Row) → RowEdits
with_changed edits [] = edits
with_changed edits (entry ∷ entries) = with_changed (insert edits entry.0 (Some entry.1)) entries

-- where a number is named twice, the last one counts
unfoldable pub edits_from : List ℕ → List (ℕ × Row) → List Row → Edits
edits_from removed changed added = record { rows = with_changed (with_removed empty removed) changed; added = added }

-- ---- rows

abbrev pub row_as : ℕ × Row → Option (Option Row) → List (ℕ × Row)
row_as entry None = entry ∷ []
row_as entry (Some None) = []
row_as entry (Some (Some row)) = (entry.0, row) ∷ []

abbrev pub edited_row : RowEdits → ℕ × Row → List (ℕ × Row)
edited_row edits entry = row_as entry (get edits entry.0)

-- rows with the new ones in place, and without those that go
abbrev pub edited : RowEdits → List (ℕ × Row) → List (ℕ × Row)
edited edits rows = flat_map (edited_row edits) rows

-- the rows that come have the next numbers
unfoldable pub rows_after : ℕ → Edits → Rows → Rows
rows_after next_row e rows =
    with_entries (with_entries empty (edited e.rows (entries rows))) (numbered next_row e.added)

-- ---- edits on top of earlier ones, before either is in a version

abbrev pub no_edits : Edits
no_edits = record { rows = empty; added = [] }

-- rows that were added have the numbers from the table's next one on, in their order

abbrev pub with_later : ℕ → RowEdits → List (ℕ × Option Row) → RowEdits
with_later next_row edits [] = edits
with_later next_row edits (e ∷ es) =
    with_later next_row (if nat_lt e.0 next_row then insert edits e.0 e.1 else edits) es

-- the added rows that are left, with the changed ones in place
abbrev pub added_left : ℕ → RowEdits → List Row → List Row
added_left next_row edits added = map (λ entry. entry.1) (edited edits (numbered next_row added))

unfoldable pub later_edits : ℕ → Edits → Edits → Edits
later_edits next_row old new = record {
  rows = with_later next_row old.rows (entries new.rows);
  added = added_left next_row new.rows old.added ++ new.added;
}

-- ---- partitions

-- also where the new row is an equal one
abbrev pub is_touched : RowEdits → Partition → Bool
is_touched edits p = list_any (λ entry. is_some (get edits entry.0)) p.rows

abbrev pub touched : RowEdits → List Partition → List Partition
touched edits standing = filter (is_touched edits) standing

abbrev pub numbers_gone : RowEdits → List Partition → List ℕ
numbers_gone edits standing = map (λ p. p.number) (touched edits standing)

abbrev pub before_later : Partition → List Partition → List Partition
before_later p [] = p ∷ []
before_later p (q ∷ qs) =
    if nat_lt (first_number q.rows) (first_number p.rows) then q ∷ before_later p qs else p ∷ q ∷ qs

-- by their rows
abbrev pub by_rows : List Partition → List Partition
by_rows [] = []
by_rows (p ∷ ps) = before_later p (by_rows ps)

-- partitions of these rows, numbered from the next number on; none where no row is left
abbrev pub made_of : ℕ → List (List (ℕ × Row)) → List Partition
made_of next [] = []
made_of next ([] ∷ lists) = made_of next lists
made_of next ((entry ∷ entries) ∷ lists) = record { number = next; rows = entry ∷ entries } ∷ made_of (next + 1) lists

-- in the places of those that the edits touch, each with its rows that are left
abbrev pub partitions_left : ℕ → RowEdits → List Partition → List Partition
partitions_left next edits standing = made_of next (map (λ p. edited edits p.rows) (by_rows (touched edits standing)))

-- added rows follow in partitions of 1,000 and a rest
abbrev pub with_added : ℕ → ℕ → List Row → List Partition → List Partition
with_added next next_row added left = left ++ cut (next + length left) (numbered next_row added)

-- with the next partition number and the next row number
unfoldable pub partitions_made : ℕ → ℕ → Edits → List Partition → List Partition
partitions_made next next_row e standing = with_added next next_row e.added (partitions_left next e.rows standing)

abbrev pub is_among : ℕ → List ℕ → Bool
is_among number numbers = list_any (nat_eq number) numbers

-- the partitions whose numbers aren't among those
abbrev pub without : List ℕ → List Partition → List Partition
without removed partitions = filter (λ p. not (is_among p.number removed)) partitions

abbrev pub contents_after : ℕ → ℕ → Edits → Contents → Contents
contents_after next next_row e c = record {
  rows = rows_after next_row e c.rows;
  partitions = without (numbers_gone e.rows c.partitions) c.partitions ++ partitions_made next next_row e c.partitions;
}
