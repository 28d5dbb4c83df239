-- The bytes of values and partitions. Whole numbers are big-endian, and a signed one is its two's complement.
--     text_bytes, list_bytes     a length and the bytes; a count and the items
--     value_bytes, row_bytes, partition_bytes
--     IsPartition                what a partition may be: 1 to 1,000 rows by rising row
--                                number, of that many values each
use Rattle.std.specs.Prelude.{◌≡◌, ℕ, ◌+◌, ◌<◌, ◌≤◌, ◌^◌, true, false, List, [], ◌∷◌, ◌++◌, length}
use Rattle.std.specs.List.{flat_map, AllByRecursion}
use Rattle.std.specs.Int.{w32, w64, to_be_bytes, cast_unsigned}
use Rattle.wh_value.specs.Value.{Value, Number, Truth, Text, Null, Row, IsRow}
use Rattle.wh_frame.specs.Partition.{Partition}

abbrev pub text_bytes : List ℕ → List ℕ
text_bytes bytes = to_be_bytes w32 (length bytes) ++ bytes

abbrev pub list_bytes : {X : Type 0} → (X → List ℕ) → List X → List ℕ
list_bytes f xs = to_be_bytes w32 (length xs) ++ flat_map f xs

unfoldable pub value_bytes : Value → List ℕ
value_bytes Null = 0 ∷ []
value_bytes (Number z) = 1 ∷ to_be_bytes w64 (cast_unsigned w64 z)
value_bytes (Truth false) = 2 ∷ []
value_bytes (Truth true) = 3 ∷ []
value_bytes (Text bytes) = 4 ∷ text_bytes bytes

-- a row number, and a value for each column
unfoldable pub row_bytes : ℕ × Row → List ℕ
row_bytes e = to_be_bytes w64 e.0 ++ flat_map value_bytes e.1

unfoldable pub partition_bytes : Partition → List ℕ
partition_bytes p = to_be_bytes w64 p.number ++ list_bytes row_bytes p.rows

-- row numbers rise, from a least one on
abbrev pub RisesFrom : ℕ → List (ℕ × Row) → Type 0
RisesFrom least [] = Unit {0}
RisesFrom least (e ∷ es) = (least ≤ e.0) × RisesFrom (e.0 + 1) es

abbrev pub IsNumberedRow : ℕ → ℕ × Row → Type 0
IsNumberedRow width e = (e.0 < 2 ^ 64) × (length e.1 ≡ width) × IsRow e.1

pub record IsPartition (width : ℕ) (p : Partition) : Type 0 where
  pub number : p.number < 2 ^ 64
  pub some : 0 < length p.rows
  pub few : length p.rows ≤ 1000
  pub rising : RisesFrom 0 p.rows
  pub rows : AllByRecursion (IsNumberedRow width) p.rows
