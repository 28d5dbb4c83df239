-- How parts of statements are read.
--     read_type, read_column      a column's type by any of its names, and a column
--     read_retention, read_append, read_order     options at the end of a statement
--     read_key, read_direction, read_sort         sort keys
--     read_after                  the tasks that a task follows
use Rattle.std.specs.Prelude.{ℕ, Bool, true, false, if◌then◌else◌, List, [], Option, Some, None, codes, bytes_eq}
use Rattle.wh_value.specs.declared.column.ColumnType.{ColumnType}
use Rattle.wh_value.specs.declared.column.ColumnType.TheVariants as types
use Rattle.wh_value.specs.declared.column.Column.{Column}
use Rattle.wh_ast.specs.declared.query.Sort.{Sort}
use Rattle.wh_ast.specs.declared.query.OrderKey as sort_key
use Rattle.wh_ast.specs.declared.query.OrderKey.TheVariants as key
use Rattle.wh_cursor.specs.declared.key.TokenClass.TheVariants as k
use Rattle.wh_cursor.specs.Steps.{read_name, sees, Reader, ◌>>=◌, ◌>>◌, pure, eat_word, eat_key, expect_word}
use Rattle.wh_cursor.specs.Steps.{expect_key, read_word, read_number, given}
use Rattle.wh_cursor.specs.Lists.{listed}
use Rattle.wh_dml_parse.specs.Read.{read_names}

-- ---- columns

unfoldable pub type_of : List ℕ → Option ColumnType
type_of w =
    if bytes_eq w (codes "NUMBER") then Some types.Number
    else if bytes_eq w (codes "INT") then Some types.Number
    else if bytes_eq w (codes "INTEGER") then Some types.Number
    else if bytes_eq w (codes "BIGINT") then Some types.Number
    else if bytes_eq w (codes "VARCHAR") then Some types.Varchar
    else if bytes_eq w (codes "STRING") then Some types.Varchar
    else if bytes_eq w (codes "TEXT") then Some types.Varchar
    else if bytes_eq w (codes "BOOLEAN") then Some types.Boolean
    else None

unfoldable pub read_type : Reader ColumnType
read_type = do
  w ← read_word
  given (type_of w)

unfoldable pub read_column : Reader Column
read_column = do
  name ← read_name
  type ← read_type
  pure (record { name = name; column_type = type })

unfoldable pub read_columns : Reader (List Column)
read_columns = listed read_column

-- ---- options at the end

abbrev pub retention_by : Bool → Reader (Option ℕ)
retention_by true = do
  expect_key k.Equal
  days ← read_number
  pure (Some days)
retention_by false = pure None

unfoldable pub read_retention : Reader (Option ℕ)
read_retention = do
  written ← eat_word (codes "DATA_RETENTION_TIME_IN_DAYS")
  retention_by written

abbrev pub truth_by : Bool → Reader Bool
truth_by true = pure true
truth_by false = expect_word (codes "FALSE") >> pure false

unfoldable pub read_truth : Reader Bool
read_truth = do
  is_true ← eat_word (codes "TRUE")
  truth_by is_true

abbrev pub append_by : Bool → Reader Bool
append_by true = expect_key k.Equal >> read_truth
append_by false = pure false

unfoldable pub read_append : Reader Bool
read_append = do
  written ← eat_word (codes "APPEND_ONLY")
  append_by written

-- ---- sort keys

abbrev pub key_by : Bool → Reader sort_key.OrderKey
key_by true = do
  n ← read_number
  pure (key.Position n)
key_by false = do
  name ← read_name
  pure (key.Name name)

unfoldable pub read_key : Reader sort_key.OrderKey
read_key = λ ts. key_by (sees k.Number ts) ts

abbrev pub direction_by : Bool → Reader Bool
direction_by true = pure true
direction_by false = eat_word (codes "ASC") >> pure false

unfoldable pub read_direction : Reader Bool
read_direction = do
  descending ← eat_word (codes "DESC")
  direction_by descending

unfoldable pub read_sort : Reader Sort
read_sort = do
  key ← read_key
  descending ← read_direction
  pure (record { key = key; descending = descending })

unfoldable pub read_sorts : Reader (List Sort)
read_sorts = listed read_sort

abbrev pub order_by : Bool → Reader (List Sort)
order_by true = expect_word (codes "BY") >> read_sorts
order_by false = pure []

unfoldable pub read_order : Reader (List Sort)
read_order = do
  ordered ← eat_word (codes "ORDER")
  order_by ordered

-- ---- tasks

abbrev pub after_by : Bool → Reader (List (List ℕ))
after_by true = read_names
after_by false = pure []

unfoldable pub read_after : Reader (List (List ℕ))
read_after = do
  follows ← eat_word (codes "AFTER")
  after_by follows
