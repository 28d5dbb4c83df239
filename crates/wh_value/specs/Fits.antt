-- Which values fit which columns.
--     fits         a value of a type; NULL fits every type
--     row_fits     a row with a value for each column, of its type
use Rattle.std.specs.Prelude.{Bool, true, false, ◌&&◌, List, [], ◌∷◌}
use Rattle.wh_value.specs.Value.{Value, Number, Truth, Text, Null, Row}
use Rattle.wh_value.specs.Column.{ColumnType, NumberType, VarcharType, BooleanType, Column}

abbrev pub fits : ColumnType → Value → Bool
fits NumberType (Number z) = true
fits NumberType (Truth b) = false
fits NumberType (Text bytes) = false
fits NumberType Null = true
fits VarcharType (Number z) = false
fits VarcharType (Truth b) = false
fits VarcharType (Text bytes) = true
fits VarcharType Null = true
fits BooleanType (Number z) = false
fits BooleanType (Truth b) = true
fits BooleanType (Text bytes) = false
fits BooleanType Null = true

abbrev pub row_fits : List Column → Row → Bool
row_fits [] [] = true
row_fits [] (v ∷ vs) = false
row_fits (c ∷ cs) [] = false
row_fits (c ∷ cs) (v ∷ vs) = fits c.column_type v && row_fits cs vs
