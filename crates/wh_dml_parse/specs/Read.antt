-- How statements that change rows are read from the front of tokens.
--     read_names     names with commas between them, and the tokens that follow them
--     read_dml       a statement that takes all tokens
use Rattle.std.specs.Prelude.{ℕ, ◌-◌, ◌==◌, Bool, true, false, if◌then◌else◌, List, [], Option}
use Rattle.std.specs.Prelude.{Some, None, length, codes}
use Rattle.wh_ast.specs.declared.expr.Expr.{Expr}
use Rattle.wh_ast.specs.declared.dml.Assignment.{Assignment}
use Rattle.wh_ast.specs.declared.dml.Rows.{Rows}
use Rattle.wh_ast.specs.declared.dml.Rows.TheVariants as rows
use Rattle.wh_ast.specs.declared.dml.MergeClause.{MergeClause}
use Rattle.wh_ast.specs.declared.dml.MergeClause.TheVariants as clause
use Rattle.wh_ast.specs.declared.dml.Dml.{Dml}
use Rattle.wh_ast.specs.declared.dml.Dml.TheVariants as dml
use Rattle.wh_cursor.specs.declared.key.TokenClass.TheVariants as k
use Rattle.wh_cursor.specs.Steps.{read_name, Reader, ◌>>=◌, ◌>>◌, pure, refuse, sees_word, eat_word, eat_key}
use Rattle.wh_cursor.specs.Steps.{expect_word, expect_key, read_end}
use Rattle.wh_cursor.specs.Lists.{some_from, listed}
use Rattle.wh_expr_parse.specs.Read.{read_expr, read_exprs}
use Rattle.wh_query_parse.specs.Read.{read_query, read_source, read_alias, read_filter}

-- ---- one or more

unfoldable pub read_names : Reader (List (List ℕ))
read_names = listed read_name

-- ---- what INSERT adds

-- behind the table's name, and whether a `(` stands there
abbrev pub columns_by : Bool → Reader (Option (List (List ℕ)))
columns_by true = do
  names ← read_names
  expect_key k.RParen
  pure (Some names)
columns_by false = pure None

unfoldable pub read_columns : Reader (Option (List (List ℕ)))
read_columns = eat_key k.LParen >>= columns_by

abbrev pub row_within : ℕ → Reader (List Expr)
row_within d = do
  expect_key k.LParen
  xs ← read_exprs d
  expect_key k.RParen
  pure xs

-- its parenthesis counts
unfoldable pub read_values_row : ℕ → Reader (List Expr)
read_values_row d = if d == 0 then refuse else row_within (d - 1)

unfoldable pub read_values_rows : ℕ → Reader (List (List Expr))
read_values_rows d = listed (read_values_row d)

-- whether VALUES stood there
abbrev pub rows_by : ℕ → Bool → Reader Rows
rows_by d true = do
  found ← read_values_rows d
  pure (rows.Values found)
rows_by d false = do
  found ← read_query d
  pure (rows.Query found)

unfoldable pub read_rows : ℕ → Reader Rows
read_rows d = eat_word (codes "VALUES") >>= rows_by d

-- ---- what UPDATE sets

unfoldable pub read_assignment : ℕ → Reader Assignment
read_assignment d = do
  column ← read_name
  expect_key k.Equal
  value ← read_expr d
  pure (record { column = column; value = value })

unfoldable pub read_assignments : ℕ → Reader (List Assignment)
read_assignments d = listed (read_assignment d)

-- ---- clauses of MERGE

-- whether AND stood there
abbrev pub condition_by : ℕ → Bool → Reader (Option Expr)
condition_by d true = do
  x ← read_expr d
  expect_word (codes "THEN")
  pure (Some x)
condition_by d false = do
  expect_word (codes "THEN")
  pure None

unfoldable pub read_condition : ℕ → Reader (Option Expr)
read_condition d = eat_word (codes "AND") >>= condition_by d

-- whether DELETE stood there
abbrev pub change_by : ℕ → Option Expr → Bool → Reader MergeClause
change_by d condition true = pure (clause.Delete condition)
change_by d condition false = do
  expect_word (codes "UPDATE")
  expect_word (codes "SET")
  set ← read_assignments d
  pure (clause.Update condition set)

-- behind MATCHED
unfoldable pub read_matched : ℕ → Reader MergeClause
read_matched d = do
  condition ← read_condition d
  deletes ← eat_word (codes "DELETE")
  change_by d condition deletes

-- behind NOT
unfoldable pub read_unmatched : ℕ → Reader MergeClause
read_unmatched d = do
  expect_word (codes "MATCHED")
  condition ← read_condition d
  expect_word (codes "INSERT")
  names ← read_columns
  expect_word (codes "VALUES")
  row ← read_values_row d
  pure (clause.Insert condition names row)

-- whether NOT stood there
abbrev pub clause_by : ℕ → Bool → Reader MergeClause
clause_by d true = read_unmatched d
clause_by d false = do
  expect_word (codes "MATCHED")
  read_matched d

unfoldable pub read_clause : ℕ → Reader MergeClause
read_clause d = do
  expect_word (codes "WHEN")
  negated ← eat_word (codes "NOT")
  clause_by d negated

-- whether that word comes next
abbrev pub peek_word : List ℕ → Reader Bool
peek_word w = λ ts. Some (sees_word w ts, ts)

unfoldable pub read_clauses : ℕ → Reader (List MergeClause)
read_clauses d = λ ts. some_from (read_clause d) (peek_word (codes "WHEN")) (length ts) [] ts

-- ---- statements, each behind its first word

unfoldable pub read_insert : ℕ → Reader Dml
read_insert d = do
  expect_word (codes "INTO")
  table ← read_name
  names ← read_columns
  found ← read_rows d
  pure (dml.Insert table names found)

unfoldable pub read_update : ℕ → Reader Dml
read_update d = do
  table ← read_name
  expect_word (codes "SET")
  set ← read_assignments d
  filter ← read_filter d
  pure (dml.Update table set filter)

unfoldable pub read_delete : ℕ → Reader Dml
read_delete d = do
  expect_word (codes "FROM")
  table ← read_name
  filter ← read_filter d
  pure (dml.Delete table filter)

unfoldable pub read_merge : ℕ → Reader Dml
read_merge d = do
  expect_word (codes "INTO")
  target ← read_name
  alias ← read_alias
  expect_word (codes "USING")
  source ← read_source d
  expect_word (codes "ON")
  on ← read_expr d
  clauses ← read_clauses d
  pure (dml.Merge target alias source on clauses)

-- the first words are tried in this order
abbrev pub merge_by : ℕ → Bool → Reader Dml
merge_by d true = read_merge d
merge_by d false = refuse

abbrev pub delete_by : ℕ → Bool → Reader Dml
delete_by d true = read_delete d
delete_by d false = eat_word (codes "MERGE") >>= merge_by d

abbrev pub update_by : ℕ → Bool → Reader Dml
update_by d true = read_update d
update_by d false = eat_word (codes "DELETE") >>= delete_by d

abbrev pub insert_by : ℕ → Bool → Reader Dml
insert_by d true = read_insert d
insert_by d false = eat_word (codes "UPDATE") >>= update_by d

unfoldable pub read_change : ℕ → Reader Dml
read_change d = eat_word (codes "INSERT") >>= insert_by d

unfoldable pub read_dml : ℕ → Reader Dml
read_dml d = do
  x ← read_change d
  read_end
  pure x
