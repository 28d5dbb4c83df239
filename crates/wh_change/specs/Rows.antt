-- Rows with their numbers, and the records of two lists of them.
--     row_in         the row that a reference points to, if there is one
--     entry_at       the row that a reference points to, with its number
--     entries_at     those of several
--     arrival_at     what became of a row that there is now: only one that wasn't there came
--     changes_by     what became of rows, by those that there are now
--     arrivals_by    the rows that there are now, by those that were there
--     IsPlaceOf      the place of the first number that isn't below
use Rattle.std.specs.Prelude.{ℕ, ◌<◌, ◌≤◌, List, [], map, Option, Some, None, length, slice_index_or as get_or}
use Rattle.std.specs.List.{flat_map}
use Rattle.std.specs.FinMap.Entries.{find}
use Rattle.std.specs.Ordering.{nat_cmp}
use denote.Ref.{Bor}
use Rattle.wh_value.specs.Value.{Row}
use Rattle.wh_part.specs.declared.partition.NumberedRow.{NumberedRow}
use Rattle.wh_part.specs.View.{numbered_of}
use Rattle.wh_net.specs.Net.{RowChange, net_change}

abbrev pub row_in : Option (Bor Row) → Option Row
row_in None = None
row_in (Some row) = Some row.now

abbrev pub entry_at : Bor NumberedRow → ℕ × Row
entry_at row = numbered_of row.now

abbrev pub entries_at : List (Bor NumberedRow) → List (ℕ × Row)
entries_at rows = map entry_at rows

abbrev pub arrival_at : ℕ → Option Row → Option Row → List RowChange
arrival_at number None new = net_change number None new
arrival_at number (Some old) new = []

abbrev pub changes_by : List (ℕ × Row) → List (ℕ × Row) → List RowChange
changes_by new old = flat_map (λ e. net_change e.0 (Some e.1) (find nat_cmp e.0 new)) old

abbrev pub arrivals_by : List (ℕ × Row) → List (ℕ × Row) → List RowChange
arrivals_by old new = flat_map (λ e. arrival_at e.0 (find nat_cmp e.0 old) (Some e.1)) new

pub record IsPlaceOf {X : Type 0} (entry_of : X → ℕ × Row) (number : ℕ) (rows : List X) (place : ℕ) : Type 0 where
  pub front : (i : ℕ) (d : X) → i < place → (entry_of (get_or rows i d)).0 < number
  pub behind : (d : X) → place < length rows → number ≤ (entry_of (get_or rows place d)).0
