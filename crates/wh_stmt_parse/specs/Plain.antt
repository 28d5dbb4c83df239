-- How statements that keep none of their text are read, behind their first word.
use Rattle.std.specs.Prelude.{ℕ, Bool, true, false, ◌&&◌, if◌then◌else◌, List, codes}
use Rattle.wh_ast.specs.declared.statement.Statement.{Statement}
use Rattle.wh_ast.specs.declared.statement.Statement.TheVariants as st
use Rattle.wh_grammar.specs.Token.{Token}
use Rattle.wh_grammar.specs.Spelled.{most_nested}
use Rattle.wh_cursor.specs.declared.key.TokenClass.TheVariants as k
use Rattle.wh_cursor.specs.Steps.{read_name, sees, tail, Reader, ◌>>=◌, ◌>>◌, pure, sees_word, eat_word, expect_word}
use Rattle.wh_cursor.specs.Steps.{expect_key, skip}
use Rattle.wh_query_parse.specs.Read.{read_query}
use Rattle.wh_option_parse.specs.Read.{read_lag, read_asked}
use Rattle.wh_dml_parse.specs.Read.{read_dml}
use Rattle.wh_stmt_parse.specs.Parts.{read_columns, read_retention, read_append, read_order}

-- ---- SELECT

-- `SELECT SYSTEM$STREAM_HAS_DATA (`: without the parenthesis it is a column's name
abbrev pub asks : List Token → Bool
asks ts = sees_word (codes "SYSTEM$STREAM_HAS_DATA") (tail ts) && sees k.LParen (tail (tail ts))

unfoldable pub read_has_data : Reader Statement
read_has_data = do
  skip
  name ← read_asked
  pure (st.HasData name)

unfoldable pub read_rows : Reader Statement
read_rows = do
  query ← read_query most_nested
  sorts ← read_order
  pure (st.Select query sorts)

unfoldable pub read_select : Reader Statement
read_select = λ ts. if asks ts then read_has_data ts else read_rows ts

unfoldable pub read_change : Reader Statement
read_change = do
  dml ← read_dml most_nested
  pure (st.Dml dml)

-- ---- CREATE TABLE, CREATE STREAM

unfoldable pub read_table : Bool → Reader Statement
read_table replace = do
  name ← read_name
  expect_key k.LParen
  columns ← read_columns
  expect_key k.RParen
  retention ← read_retention
  pure (st.CreateTable (record { replace = replace; name = name; columns = columns; retention = retention }))

-- behind OR
unfoldable pub read_replacement : Reader Statement
read_replacement = do
  expect_word (codes "REPLACE")
  expect_word (codes "TABLE")
  read_table true

unfoldable pub read_stream : Reader Statement
read_stream = do
  name ← read_name
  expect_word (codes "ON")
  expect_word (codes "TABLE")
  table ← read_name
  append_only ← read_append
  pure (st.CreateStream name table append_only)

-- ---- ALTER, EXECUTE, DROP

abbrev pub task_by : List ℕ → Bool → Reader Statement
task_by name true = pure (st.ResumeTask name)
task_by name false = expect_word (codes "SUSPEND") >> pure (st.SuspendTask name)

unfoldable pub read_alter_task : Reader Statement
read_alter_task = do
  name ← read_name
  resumed ← eat_word (codes "RESUME")
  task_by name resumed

-- behind the name
unfoldable pub read_set_lag : List ℕ → Reader Statement
read_set_lag name = do
  expect_word (codes "SET")
  expect_word (codes "TARGET_LAG")
  expect_key k.Equal
  lag ← read_lag
  pure (st.SetTargetLag name lag)

abbrev pub refreshed_by : List ℕ → Bool → Reader Statement
refreshed_by name true = pure (st.RefreshDynamicTable name)
refreshed_by name false = read_set_lag name

abbrev pub suspended_by : List ℕ → Bool → Reader Statement
suspended_by name true = pure (st.SuspendDynamicTable name)
suspended_by name false = eat_word (codes "REFRESH") >>= refreshed_by name

abbrev pub resumed_by : List ℕ → Bool → Reader Statement
resumed_by name true = pure (st.ResumeDynamicTable name)
resumed_by name false = eat_word (codes "SUSPEND") >>= suspended_by name

unfoldable pub read_alter_table : Reader Statement
read_alter_table = do
  expect_word (codes "DYNAMIC")
  expect_word (codes "TABLE")
  name ← read_name
  resumed ← eat_word (codes "RESUME")
  resumed_by name resumed

abbrev pub alter_by : Bool → Reader Statement
alter_by true = read_alter_task
alter_by false = read_alter_table

unfoldable pub read_alter : Reader Statement
read_alter = do
  task ← eat_word (codes "TASK")
  alter_by task

unfoldable pub read_execute : Reader Statement
read_execute = do
  expect_word (codes "TASK")
  name ← read_name
  pure (st.ExecuteTask name)

abbrev pub named : (List ℕ → Statement) → Reader Statement
named made = do
  name ← read_name
  pure (made name)

abbrev pub drop_dynamic_table : Reader Statement
drop_dynamic_table = do
  expect_word (codes "DYNAMIC")
  expect_word (codes "TABLE")
  named (λ name. st.DropDynamicTable name)

unfoldable pub read_drop : Reader Statement
read_drop = λ ts.
    if sees_word (codes "TABLE") ts then (skip >> named (λ name. st.DropTable name)) ts
    else if sees_word (codes "STREAM") ts then (skip >> named (λ name. st.DropStream name)) ts
    else if sees_word (codes "TASK") ts then (skip >> named (λ name. st.DropTask name)) ts
    else drop_dynamic_table ts

-- ---- transactions

abbrev pub begin_by : Bool → Reader Statement
begin_by true = pure st.Begin
begin_by false = eat_word (codes "WORK") >> pure st.Begin

unfoldable pub read_begin : Reader Statement
read_begin = do
  transaction ← eat_word (codes "TRANSACTION")
  begin_by transaction

unfoldable pub read_start : Reader Statement
read_start = expect_word (codes "TRANSACTION") >> pure st.Begin

-- COMMIT and ROLLBACK
unfoldable pub read_ending : Statement → Reader Statement
read_ending made = eat_word (codes "WORK") >> pure made
