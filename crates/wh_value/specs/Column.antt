-- Columns of tables.
use Rattle.std.specs.Prelude.{ℕ, List}

pub data ColumnType : Type 0 where
  NumberType : ColumnType
  VarcharType : ColumnType
  BooleanType : ColumnType

pub record Column : Type 0 where
  pub name : List ℕ
  pub column_type : ColumnType
