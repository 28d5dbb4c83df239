-- What values of the code stand for.
--     value_of     a value of the machine
--     type_of, column_of     a column's type of the machine, and a column
use Rattle.wh_value.specs.Value as machine
use Rattle.wh_value.specs.Column as table
use Rattle.wh_value.specs.declared.value.Value.{Value}
use Rattle.wh_value.specs.declared.value.Value.TheVariants.{Number, Bool, Text, Null}
use Rattle.wh_value.specs.declared.column.ColumnType.{ColumnType}
use Rattle.wh_value.specs.declared.column.ColumnType.TheVariants as types
use Rattle.wh_value.specs.declared.column.Column.{Column}

abbrev pub value_of : Value → machine.Value
value_of (Number z) = machine.Number z
value_of (Bool b) = machine.Truth b
value_of (Text bytes) = machine.Text bytes
value_of Null = machine.Null

abbrev pub type_of : ColumnType → table.ColumnType
type_of types.Number = table.NumberType
type_of types.Varchar = table.VarcharType
type_of types.Boolean = table.BooleanType

abbrev pub column_of : Column → table.Column
column_of c = record { name = c.name; column_type = type_of c.column_type }
