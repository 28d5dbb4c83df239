-- How statements that keep parts of their text are read: CREATE TASK and CREATE DYNAMIC TABLE.
--     between, piece     the tokens between two places, and their text
use Rattle.std.specs.Prelude.{ℕ, ◌-◌, Bool, true, false, List, [], ◌∷◌, Option, Some, None, length, take, drop, codes}
use Rattle.wh_ast.specs.declared.statement.Statement.{Statement}
use Rattle.wh_ast.specs.declared.statement.Statement.TheVariants as st
use Rattle.wh_ast.specs.declared.statement.When.{When}
use Rattle.wh_grammar.specs.Token.{Placed}
use Rattle.wh_grammar.specs.Spelled.{most_nested, written}
use Rattle.wh_cursor.specs.Steps.{read_name, Reader, ◌>>=◌, ◌>>◌, pure, refuse, eat_word, expect_word, given}
use Rattle.wh_lex.specs.Front.{text_of}
use Rattle.wh_query_parse.specs.Read.{read_query}
use Rattle.wh_option_parse.specs.Read.{read_condition, read_task_options, read_table_options}
use Rattle.wh_dml_parse.specs.Read.{read_dml}
use Rattle.wh_stmt_parse.specs.declared.kept.TaskHead.{TaskHead}
use Rattle.wh_stmt_parse.specs.Parts.{read_after}

-- from where so many tokens are left to where so many are
abbrev pub between : List Placed → ℕ → ℕ → List Placed
between placed from to = take (from - to) (drop (length placed - from) placed)

abbrev pub here : Reader ℕ
here = λ ts. Some (length ts, ts)

-- not both a schedule and AFTER
abbrev pub starts_once : Option ℕ → List (List ℕ) → Bool
starts_once None names = true
starts_once (Some n) [] = true
starts_once (Some n) (name ∷ names) = false

abbrev pub checked : Bool → Reader (Unit {0})
checked true = pure tt
checked false = refuse

-- behind CREATE TASK
unfoldable pub read_task_head : Reader TaskHead
read_task_head = do
  name ← read_name
  minutes ← read_task_options
  after ← read_after
  checked (starts_once minutes after)
  pure (record { name = name; minutes = minutes; after = after })

module _ (text : List ℕ) (placed : List Placed) where
  unfoldable pub piece : ℕ → ℕ → Reader (List ℕ)
  piece from to = given (text_of (written text (between placed from to)))

  abbrev pub guard_by : Bool → Reader (Option When)
  guard_by true = do
    from ← here
    condition ← read_condition most_nested
    to ← here
    kept ← piece from to
    pure (Some (record { condition = condition; text = kept }))
  guard_by false = pure None

  unfoldable pub read_guard : Reader (Option When)
  read_guard = do
    guarded ← eat_word (codes "WHEN")
    guard_by guarded

  unfoldable pub read_task : Reader Statement
  read_task = do
    head ← read_task_head
    when ← read_guard
    expect_word (codes "AS")
    from ← here
    body ← read_dml most_nested
    kept ← piece from 0
    pure (st.CreateTask (record {
      name = head.name;
      minutes = head.minutes;
      after = head.after;
      when = when;
      body = body;
      body_text = kept;
    }))

  -- behind CREATE DYNAMIC
  unfoldable pub read_dynamic_table : Reader Statement
  read_dynamic_table = do
    expect_word (codes "TABLE")
    name ← read_name
    options ← read_table_options
    expect_word (codes "AS")
    from ← here
    query ← read_query most_nested
    kept ← piece from 0
    pure (st.CreateDynamicTable (record {
      name = name;
      lag = options.0;
      mode = options.1.0;
      initialize = options.1.1;
      query = query;
      query_text = kept;
    }))
