-- What is known of a column's values so far.
--     seen_value                 the value that was seen
--     types_of, both_types       which types a value fits, and which two groups of values do
--     Extent, started, absorbed  the least and the greatest value and the types: of one value, and with one more
--     extents_of                 of each column of a partition's rows, from the first row on
use Rattle.std.specs.Prelude.{ℕ, Bool, ◌&&◌, List, [], ◌∷◌, map, if◌then◌else◌}
use Rattle.std.specs.Ordering.{is_lt}
use Rattle.wh_value.specs.Value.{Value, Row, Number, Truth, Text, Null, value_cmp}
use Rattle.wh_value.specs.Column.{ColumnType, NumberType, VarcharType, BooleanType}
use Rattle.wh_value.specs.Fits.{fits}
use Rattle.wh_part.specs.declared.seen.Seen.{Seen}
use Rattle.wh_part.specs.declared.seen.Seen.TheVariants as variants
use Rattle.wh_part.specs.declared.extent.Types.{Types}
use Rattle.wh_part.specs.declared.extent.Extent as declared

abbrev pub seen_value : Seen → Value
seen_value (variants.Number z) = Number z
seen_value (variants.Bool b) = Truth b
seen_value (variants.Text bytes) = Text bytes.now
seen_value variants.Null = Null

-- ---- types

abbrev pub types_of : Value → Types
types_of v = record { number = fits NumberType v; varchar = fits VarcharType v; boolean = fits BooleanType v }

abbrev pub both_types : Types → Types → Types
both_types x y = record {
  number = x.number && y.number;
  varchar = x.varchar && y.varchar;
  boolean = x.boolean && y.boolean;
}

abbrev pub fits_by : Types → ColumnType → Bool
fits_by types NumberType = types.number
fits_by types VarcharType = types.varchar
fits_by types BooleanType = types.boolean

-- ---- the least and the greatest value

pub record Extent : Type 0 where
  pub least : Value
  pub greatest : Value
  pub types : Types

abbrev pub extent_of : declared.Extent → Extent
extent_of e = record { least = seen_value e.least; greatest = seen_value e.greatest; types = e.types }

abbrev pub started : Value → Extent
started v = record { least = v; greatest = v; types = types_of v }

-- of two, the first where they tie
abbrev pub lesser : Value → Value → Value
lesser x y = if is_lt (value_cmp y x) then y else x

abbrev pub greater : Value → Value → Value
greater x y = if is_lt (value_cmp x y) then y else x

abbrev pub absorbed : Extent → Value → Extent
absorbed e v = record {
  least = lesser e.least v;
  greatest = greater e.greatest v;
  types = both_types e.types (types_of v);
}

-- ---- the columns of rows

-- with a row more, as far as it reaches
abbrev pub row_absorbed : List Extent → Row → List Extent
row_absorbed [] row = []
row_absorbed (e ∷ es) [] = e ∷ es
row_absorbed (e ∷ es) (v ∷ row) = absorbed e v ∷ row_absorbed es row

abbrev pub rows_absorbed : List Extent → List (ℕ × Row) → List Extent
rows_absorbed extents [] = extents
rows_absorbed extents (e ∷ es) = rows_absorbed (row_absorbed extents e.1) es

abbrev pub extents_of : List (ℕ × Row) → List Extent
extents_of [] = []
extents_of (e ∷ es) = rows_absorbed (map started e.1) es
