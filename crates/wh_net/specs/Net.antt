-- Changes of a table's rows from one version to another, by row number.
--     RowChange             a row that came or went, by its number, and whether the other side of it did the other
--     net_change         what became of the row of one number
--     net                what became of each row
--     patch              rows with the changes made
--     appended           the rows that first stand in versions of a range of stamps
use Rattle.std.specs.Prelude.{ℕ, Bool, true, false, not, ◌&&◌, if◌then◌else◌, List, [], ◌∷◌, ◌++◌, map}
use Rattle.std.specs.Prelude.{Option, Some, None, is_some, nat_le, nat_lt}
use Rattle.std.specs.List.{filter, flat_map, list_any}
use Rattle.std.specs.FinMap.{get, insert, remove, entries}
use Rattle.std.specs.Ordering.{eq_by_cmp}
use Rattle.wh_value.specs.Value.{Row, row_cmp}
use Rattle.wh_state.specs.State.{Rows, Version}

pub data RowAction : Type 0 where
  Delete : RowAction
  Insert : RowAction

-- an update is a row that went and one that came, under one number
pub record RowChange : Type 0 where
  pub number : ℕ
  pub action : RowAction
  pub is_update : Bool
  pub row : Row

abbrev pub deleted : ℕ → Bool → Row → RowChange
deleted number is_update row = record { number = number; action = Delete; is_update = is_update; row = row }

abbrev pub inserted : ℕ → Bool → Row → RowChange
inserted number is_update row = record { number = number; action = Insert; is_update = is_update; row = row }

-- ---- net changes

-- of one number, by the row that stood there and the one that stands there now
abbrev pub net_change : ℕ → Option Row → Option Row → List RowChange
net_change number None None = []
net_change number None (Some new) = inserted number false new ∷ []
net_change number (Some old) None = deleted number false old ∷ []
net_change number (Some old) (Some new) =
    if eq_by_cmp row_cmp old new then [] else deleted number true old ∷ inserted number true new ∷ []

abbrev pub numbers_in : Rows → List ℕ
numbers_in rows = map (λ e. e.0) (entries rows)

-- each once: those that stood, and then those that came
abbrev pub numbers_in_either : Rows → Rows → List ℕ
numbers_in_either old new = numbers_in old ++ filter (λ n. not (is_some (get old n))) (numbers_in new)

-- whatever came between
unfoldable pub net : Rows → Rows → List RowChange
net old new = flat_map (λ n. net_change n (get old n) (get new n)) (numbers_in_either old new)

-- ---- what they come to

abbrev pub taken_out : RowAction → ℕ → Rows → Rows
taken_out Delete number rows = remove rows number
taken_out Insert number rows = rows

abbrev pub put_back : RowAction → ℕ → Row → Rows → Rows
put_back Delete number row rows = rows
put_back Insert number row rows = insert rows number row

abbrev pub without_deleted : Rows → List RowChange → Rows
without_deleted rows [] = rows
without_deleted rows (r ∷ rs) = without_deleted (taken_out r.action r.number rows) rs

abbrev pub with_inserted : Rows → List RowChange → Rows
with_inserted rows [] = rows
with_inserted rows (r ∷ rs) = with_inserted (put_back r.action r.number r.row rows) rs

-- what was deleted goes, and then what was inserted comes
unfoldable pub patch : Rows → List RowChange → Rows
patch rows records = with_inserted (without_deleted rows records) records

-- ---- appended rows

abbrev pub is_in_one : ℕ → List Rows → Bool
is_in_one number earlier = list_any (λ rows. is_some (get rows number)) earlier

-- those that no earlier version has
abbrev pub first_here : List Rows → Rows → List (ℕ × Row)
first_here earlier rows = filter (λ e. not (is_in_one e.0 earlier)) (entries rows)

abbrev pub is_between : ℕ → ℕ → ℕ → Bool
is_between from to stamp = nat_lt from stamp && nat_le stamp to

abbrev pub appended_from : List Rows → ℕ → ℕ → List Version → List RowChange
appended_from earlier from to [] = []
appended_from earlier from to (v ∷ vs) =
    (if is_between from to v.stamp then map (λ e. inserted e.0 false e.1) (first_here earlier v.content.rows) else [])
    ++ appended_from (v.content.rows ∷ earlier) from to vs

-- each with the row as the first version that has its number has it; the range is behind `from`, up to `to`
unfoldable pub appended : List Version → ℕ → ℕ → List RowChange
appended versions from to = appended_from [] from to versions
