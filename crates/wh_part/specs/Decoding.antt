-- Reading values, rows and partitions.
use Rattle.std.specs.Prelude.{ℕ, zero, suc, ◌+◌, ◌<◌, ◌≤◌, Bool, true, false, ◌&&◌, List, [], ◌∷◌, length, ℤ}
use Rattle.std.specs.Prelude.{unsigned_abs, Option, Some, None, nat_lt, nat_le}
use Rattle.std.specs.Int.{w32, w64, cast_signed}
use Rattle.wh_value.specs.Value.{Value, Number, Truth, Text, Null, Row}
use Rattle.wh_frame.specs.Partition.{Partition}
use Rattle.wh_frame.specs.Spelling.{RisesFrom}
use Rattle.wh_part.specs.Reading.{Reader, then_at, where_at, as_at, items_at, list_at, number_at, text_at}

-- a number of at most 18 digits
abbrev pub is_short : ℤ → Bool
is_short z = nat_lt (unsigned_abs z) 1000000000000000000

unfoldable pub whole_number_at : Reader ℤ
whole_number_at bytes = where_at is_short (as_at (cast_signed w64) (number_at w64)) bytes

-- a tag, and what it announces
unfoldable pub value_at : Reader Value
value_at [] = None
value_at (zero ∷ bytes) = Some (Null, bytes)
value_at (suc zero ∷ bytes) = as_at Number whole_number_at bytes
value_at (suc (suc zero) ∷ bytes) = Some (Truth false, bytes)
value_at (suc (suc (suc zero)) ∷ bytes) = Some (Truth true, bytes)
value_at (suc (suc (suc (suc zero))) ∷ bytes) = as_at Text text_at bytes
value_at (suc (suc (suc (suc (suc tag)))) ∷ bytes) = None

unfoldable pub row_at : ℕ → Reader (ℕ × Row)
row_at width bytes = then_at (number_at w64) (λ _. items_at value_at width) bytes

-- 1 to 1,000
abbrev pub is_row_count : ℕ → Bool
is_row_count n = nat_lt 0 n && nat_le n 1000

-- whether the row numbers rise, from a least one on
abbrev pub rises_from : ℕ → List (ℕ × Row) → Bool
rises_from least [] = true
rises_from least (e ∷ es) = nat_le least e.0 && rises_from (e.0 + 1) es

-- the least number that may follow
abbrev pub least_after : Option ℕ → ℕ
least_after None = 0
least_after (Some last) = last + 1

unfoldable pub row_count_at : Reader ℕ
row_count_at bytes = where_at is_row_count (number_at w32) bytes

unfoldable pub rows_at : ℕ → Reader (List (ℕ × Row))
rows_at width bytes = where_at (rises_from 0) (list_at row_count_at (row_at width)) bytes

unfoldable pub partition_at : ℕ → Reader Partition
partition_at width bytes =
    as_at (λ p. record { number = p.0; rows = p.1 }) (then_at (number_at w64) (λ _. rows_at width)) bytes

-- 1 to 1,000 rows by rising row number
abbrev pub AreRows : List (ℕ × Row) → Type 0
AreRows rows = (0 < length rows) × (length rows ≤ 1000) × RisesFrom 0 rows
