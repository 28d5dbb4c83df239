-- Partitions: rows with their numbers.
--     Partition                      its number, and its rows by rising row number; it never changes
--     first_number, last_number      between which the numbers of its rows lie
--     numbered, cut                  rows with their numbers, and as partitions of 1,000 rows
--                                    each and the rest as one more
--     coded_partition                so that a partition can be what contracts see of a struct
use Rattle.std.specs.Prelude.{ℕ, zero, suc, ◌+◌, ◌/◌, List, [], ◌∷◌, length, take, drop, refl}
use Rattle.std.specs.Coded.{Coded, code_by, coded_ℕ, coded_list, coded×}
use Rattle.wh_value.specs.Value.{Row, coded_value}

pub record Partition : Type 0 where
  pub number : ℕ
  pub rows : List (ℕ × Row)

abbrev pub first_number : List (ℕ × Row) → ℕ
first_number [] = 0
first_number (e ∷ es) = e.0

abbrev pub last_number : List (ℕ × Row) → ℕ
last_number [] = 0
last_number (e ∷ []) = e.0
last_number (e ∷ f ∷ es) = last_number (f ∷ es)

-- rows with their numbers, from the first one on
abbrev pub numbered : ℕ → List Row → List (ℕ × Row)
numbered next [] = []
numbered next (row ∷ rows) = (next, row) ∷ numbered (next + 1) rows

-- how many partitions of at most 1,000 rows that many rows fill
abbrev pub partitions_of : ℕ → ℕ
partitions_of count = (count + 999) / 1000

-- so many partitions, numbered from the next one on, of the first 1,000 rows, the 1,000 behind these, and so on
abbrev pub cut_into : ℕ → ℕ → List (ℕ × Row) → List Partition
cut_into next zero rows = []
cut_into next (suc count) rows =
    record { number = next; rows = take 1000 rows } ∷ cut_into (next + 1) count (drop 1000 rows)

abbrev pub cut : ℕ → List (ℕ × Row) → List Partition
cut next rows = cut_into next (partitions_of (length rows)) rows

abbrev pub coded_partition : Coded Partition
coded_partition = code_by (ℕ × List (ℕ × Row)) (coded× coded_ℕ (coded_list (coded× coded_ℕ (coded_list coded_value))))
    (λ p. (p.number, p.rows)) (λ p. record { number = p.0; rows = p.1 }) (λ _. refl)
