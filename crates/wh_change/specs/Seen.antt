-- Row numbers among partitions.
--     has_number     whether a partition has a row of that number
--     is_seen        whether one of several has
--     IsBound        none has a row with a number above it
--     IsLeast        none has a row with a number below it
--     HasNoneOf      a partition has no row of a number that one of several has
--     appeared       those of rows whose numbers none of them has, as records
use Rattle.std.specs.Prelude.{◌≡◌, ℕ, ◌<◌, ◌≤◌, Bool, true, false, not, List, map, is_some}
use Rattle.std.specs.List.{filter, list_any}
use Rattle.std.specs.FinMap.Entries.{find}
use Rattle.std.specs.Ordering.{nat_cmp}
use Rattle.wh_value.specs.Value.{Row}
use Rattle.wh_frame.specs.Partition.{Partition}
use Rattle.wh_net.specs.Net.{RowChange, inserted}

abbrev pub has_number : ℕ → Partition → Bool
has_number number p = is_some (find nat_cmp number p.rows)

abbrev pub is_seen : ℕ → List Partition → Bool
is_seen number partitions = list_any (has_number number) partitions

abbrev pub IsBound : ℕ → List Partition → Type 0
IsBound bound partitions = (number : ℕ) → bound < number → is_seen number partitions ≡ false

abbrev pub IsLeast : ℕ → List Partition → Type 0
IsLeast least partitions = (number : ℕ) → is_seen number partitions ≡ true → least ≤ number

abbrev pub HasNoneOf : List Partition → Partition → Type 0
HasNoneOf partitions p = (number : ℕ) → is_seen number partitions ≡ true → has_number number p ≡ false

abbrev pub appeared : List Partition → List (ℕ × Row) → List RowChange
appeared partitions rows = map (λ e. inserted e.0 false e.1) (filter (λ e. not (is_seen e.0 partitions)) rows)
