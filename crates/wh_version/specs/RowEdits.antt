-- Edits of rows as lists, by their numbers.
--     entry_of, entries_in    an edit, and a list of them, as the machine's entries
--     row_in                  what becomes of the row of an edit that a reference points to
--     IsPlaceOf               the place of the first number that isn't below
--     removal_of, change_of   a row that goes, and one that becomes another
--     put_all                 a map with entries put in one after the other
--     puts                    the same of a list by rising number
--     below, not_below        entries in front of the first whose number isn't below, and from there on
--     other_than              without the first entry, where it has that number
use Rattle.std.specs.Prelude.{ℕ, ◌-◌, ◌<◌, ◌≤◌, List, [], ◌∷◌, length, map, if◌then◌else◌, nat_eq, nat_lt}
use Rattle.std.specs.Prelude.{Option, Some, None, slice_index_or as get_or}
use Rattle.std.specs.FinMap.{FinMap, insert, put}
use Rattle.std.specs.Ordering.{nat_cmp}
use denote.Ref.{Bor}
use Rattle.wh_value.specs.Value.{Row}
use Rattle.wh_part.specs.declared.partition.NumberedRow.{NumberedRow}
use Rattle.wh_version.specs.declared.row_edit.RowEdit.{RowEdit}

abbrev pub entry_of : RowEdit → ℕ × Option Row
entry_of edit = (edit.number, edit.row)

abbrev pub entries_in : List RowEdit → List (ℕ × Option Row)
entries_in list = map entry_of list

abbrev pub row_in : Option (Bor RowEdit) → Option (Option Row)
row_in None = None
row_in (Some edit) = Some edit.now.row

-- the last one in front of the place is below the number; the one at the place isn't
abbrev pub IsBelowIn : ℕ → List RowEdit → ℕ → Type 0
IsBelowIn number list place = (d : RowEdit) → 0 < place → (get_or list (place - 1) d).number < number

abbrev pub IsBehindIn : ℕ → List RowEdit → ℕ → Type 0
IsBehindIn number list place = (d : RowEdit) → place < length list → number ≤ (get_or list place d).number

pub record IsPlaceOf (number : ℕ) (list : List RowEdit) (place : ℕ) : Type 0 where
  pub within : place ≤ length list
  pub front : IsBelowIn number list place
  pub behind : IsBehindIn number list place

abbrev pub removal_of : ℕ → ℕ × Option Row
removal_of number = (number, None)

abbrev pub change_of : NumberedRow → ℕ × Option Row
change_of e = (e.number, Some e.row)

module _ {X : Type 0} where
  abbrev pub put_all : FinMap nat_cmp X → List (ℕ × X) → FinMap nat_cmp X
  put_all m [] = m
  put_all m (e ∷ es) = put_all (insert m e.0 e.1) es

  abbrev pub puts : List (ℕ × X) → List (ℕ × X) → List (ℕ × X)
  puts es [] = es
  puts es (l ∷ ls) = puts (put nat_cmp l.0 l.1 es) ls

  abbrev pub below : ℕ → List (ℕ × X) → List (ℕ × X)
  below number [] = []
  below number (e ∷ es) = if nat_lt e.0 number then e ∷ below number es else []

  abbrev pub not_below : ℕ → List (ℕ × X) → List (ℕ × X)
  not_below number [] = []
  not_below number (e ∷ es) = if nat_lt e.0 number then not_below number es else e ∷ es

  abbrev pub other_than : ℕ → List (ℕ × X) → List (ℕ × X)
  other_than number [] = []
  other_than number (e ∷ es) = if nat_eq e.0 number then es else e ∷ es
