-- Row numbers of partitions, as tests and bounds that a table can hold.
--     all_apart          whether each is apart from those before it and from each later one
--     highest_number     the highest number at the end of a partition
--     rows_rise          whether the row numbers of a partition rise
use Rattle.std.specs.Prelude.{ℕ, max, Bool, true, ◌&&◌, ◌||◌, List, [], ◌∷◌, nat_lt}
use Rattle.std.specs.List.{list_all}
use Rattle.wh_frame.specs.Partition.{Partition, first_number, last_number}
use Rattle.wh_state.specs.Stored.{StoredVersion}
use Rattle.wh_part.specs.Decoding.{rises_from}

abbrev pub are_apart : Partition → Partition → Bool
are_apart p q = nat_lt (last_number p.rows) (first_number q.rows) || nat_lt (last_number q.rows) (first_number p.rows)

abbrev pub all_apart : List Partition → List Partition → Bool
all_apart before [] = true
all_apart before (p ∷ ps) = list_all (are_apart p) before && all_apart (p ∷ before) ps

-- whether a version's partitions are apart
abbrev pub is_apart : StoredVersion → Bool
is_apart v = all_apart [] v.content

abbrev pub rows_rise : Partition → Bool
rows_rise p = rises_from 0 p.rows

-- whether those of each of a version's partitions rise
abbrev pub is_rising : StoredVersion → Bool
is_rising v = list_all rows_rise v.content

abbrev pub highest_number : List Partition → ℕ
highest_number [] = 0
highest_number (p ∷ ps) = max (last_number p.rows) (highest_number ps)
