-- How options, their texts and conditions are read.
--     schedule_of, lag_of, name_text_of     what a text is as a schedule, as a lag and as a stream's name
--     read_lag, read_asked                  a lag, and a question for a stream's data
--     read_condition                        the condition of a task, to a depth
--     read_task_options                     the options of a task, which give a schedule or none
--     read_table_options                    the options of a dynamic table
use Rattle.std.specs.Prelude.{ℕ, zero, suc, ◌*◌, Bool, true, false, ◌||◌, ◌==◌, nat_lt, if◌then◌else◌, List, [], ◌∷◌}
use Rattle.std.specs.Prelude.{length, map, take, drop, Option, Some, None, option_map, unwrap_or, codes, bytes_eq}
use Rattle.std.specs.List.{prefix_len}
use Rattle.wh_ast.specs.declared.statement.Lag.{Lag}
use Rattle.wh_ast.specs.declared.statement.Lag.TheVariants as lag
use Rattle.wh_ast.specs.declared.statement.WhenCondition.{WhenCondition}
use Rattle.wh_ast.specs.declared.statement.WhenCondition.TheVariants as c
use Rattle.wh_ast.specs.declared.statement.RefreshMode.{RefreshMode}
use Rattle.wh_ast.specs.declared.statement.RefreshMode.TheVariants as mode
use Rattle.wh_ast.specs.declared.statement.Initialize.{Initialize}
use Rattle.wh_ast.specs.declared.statement.Initialize.TheVariants as init
use Rattle.wh_grammar.specs.Bytes.{is_blank, is_digit, upper, number_behind}
use Rattle.wh_grammar.specs.Words.{is_reserved}
use Rattle.wh_grammar.specs.Token.{Token, Word, Quoted, TextToken, NumberToken, SignToken}
use Rattle.wh_lex.specs.Front.{front_of}
use Rattle.wh_cursor.specs.declared.key.TokenClass.TheVariants as k
use Rattle.wh_cursor.specs.Chains as chains
use Rattle.wh_cursor.specs.Chains.{Links}
use Rattle.wh_cursor.specs.Steps.{sees, Reader, ◌>>=◌, ◌>>◌, pure, refuse, skip, sees_word, eat_word, expect_word}
use Rattle.wh_cursor.specs.Steps.{expect_key, read_text, read_word, read_name, given}
use Rattle.wh_option_parse.specs.declared.levels.Connective.{Connective}
use Rattle.wh_option_parse.specs.declared.levels.Connective.TheVariants.{Or, And}
use Rattle.wh_option_parse.specs.declared.levels.Level.{Level}
use Rattle.wh_option_parse.specs.declared.levels.Level.TheVariants.{Whole, Negation}
use Rattle.wh_option_parse.specs.declared.task.TaskParts.{TaskParts}
use Rattle.wh_option_parse.specs.declared.table.TableParts.{TableParts}

-- ---- texts

-- digits, and what is behind them
abbrev pub span_by : List ℕ → List ℕ → Option (ℕ × List ℕ)
span_by digits behind =
    if length digits == 0 || nat_lt 9 (length digits) || prefix_len is_blank behind == 0 then None
    else Some (number_behind 0 digits, map upper (drop (prefix_len is_blank behind) behind))

-- a number and its unit, in upper case
unfoldable pub span_of : List ℕ → Option (ℕ × List ℕ)
span_of bytes = span_by (take (prefix_len is_digit bytes) bytes) (drop (prefix_len is_digit bytes) bytes)

abbrev pub is_either : List ℕ → List ℕ → List ℕ → Bool
is_either unit one many = bytes_eq unit one || bytes_eq unit many

abbrev pub schedule_by : Option (ℕ × List ℕ) → Option ℕ
schedule_by None = None
schedule_by (Some p) = if is_either p.1 (codes "MINUTE") (codes "MINUTES") then Some p.0 else None

unfoldable pub schedule_of : List ℕ → Option ℕ
schedule_of bytes = schedule_by (span_of bytes)

-- how many seconds a unit has
abbrev pub factor_of : List ℕ → Option ℕ
factor_of unit =
    if is_either unit (codes "SECOND") (codes "SECONDS") then Some 1
    else if is_either unit (codes "MINUTE") (codes "MINUTES") then Some 60
    else if is_either unit (codes "HOUR") (codes "HOURS") then Some 3600
    else if is_either unit (codes "DAY") (codes "DAYS") then Some 86400
    else None

abbrev pub lag_by : Option (ℕ × List ℕ) → Option Lag
lag_by None = None
lag_by (Some p) = option_map (λ factor. lag.Seconds (p.0 * factor)) (factor_of p.1)

unfoldable pub lag_of : List ℕ → Option Lag
lag_of bytes = lag_by (span_of bytes)

-- what a token names
abbrev pub named_by : Token → Option (List ℕ)
named_by (Word w) = if is_reserved w then None else Some w
named_by (Quoted name) = Some name
named_by (TextToken bytes) = None
named_by (NumberToken n) = None
named_by (SignToken s) = None

-- what stands at the front of a text, where it is the whole text
abbrev pub name_text_by : Option (Option Token × List ℕ) → Option (List ℕ)
name_text_by None = None
name_text_by (Some (None, rest)) = None
name_text_by (Some (Some t, [])) = named_by t
name_text_by (Some (Some t, (b ∷ rest))) = None

unfoldable pub name_text_of : List ℕ → Option (List ℕ)
name_text_of bytes = name_text_by (front_of bytes)

-- ---- steps

-- goes on, unless it was seen before
abbrev pub once : Bool → Reader (Unit {0})
once true = refuse
once false = pure tt

abbrev pub is_some : {A : Type 0} → Option A → Bool
is_some None = false
is_some (Some x) = true

-- ---- lags, and what asks for data

-- in a text
unfoldable pub read_schedule : Reader ℕ
read_schedule = do
  bytes ← read_text
  given (schedule_of bytes)

unfoldable pub read_name_text : Reader (List ℕ)
read_name_text = do
  bytes ← read_text
  given (name_text_of bytes)

abbrev pub lag_from : Bool → Reader Lag
lag_from true = skip >> pure lag.Downstream
lag_from false = do
  bytes ← read_text
  given (lag_of bytes)

unfoldable pub read_lag : Reader Lag
read_lag = λ ts. lag_from (sees_word (codes "DOWNSTREAM") ts) ts

unfoldable pub read_asked : Reader (List ℕ)
read_asked = do
  expect_word (codes "SYSTEM$STREAM_HAS_DATA")
  expect_key k.LParen
  name ← read_name_text
  expect_key k.RParen
  pure name

-- ---- conditions: operators of one level, from the left

abbrev pub word_of : Connective → List ℕ
word_of Or = codes "OR"
word_of And = codes "AND"

-- a connective, if it comes next
unfoldable pub read_connective : Connective → Reader (Option Connective)
read_connective connective = do
  found ← eat_word (word_of connective)
  pure (if found then Some connective else None)

abbrev pub connected : Connective → WhenCondition → WhenCondition → WhenCondition
connected Or x y = c.Or x y
connected And x y = c.And x y

abbrev pub links : Connective → Reader WhenCondition → Links (List Token) WhenCondition Connective
links connective item = record { operator = read_connective connective; operand = item; make = connected }

abbrev pub chain : Connective → Reader WhenCondition → Reader WhenCondition
chain connective item = chains.chain (links connective item) length

module _ (inner : Level → Reader WhenCondition) where
  unfoldable pub negated : Reader WhenCondition
  negated = do
    skip
    x ← inner Negation
    pure (c.Not x)

  unfoldable pub parenthesized : Reader WhenCondition
  parenthesized = do
    skip
    x ← inner Whole
    expect_key k.RParen
    pure x

  unfoldable pub has_data : Reader WhenCondition
  has_data = do
    name ← read_asked
    pure (c.HasData name)

  -- whether NOT and whether `(` comes next
  abbrev pub negation_by : Bool → Bool → Reader WhenCondition
  negation_by true opened = negated
  negation_by false true = parenthesized
  negation_by false false = has_data

  unfoldable pub negation : Reader WhenCondition
  negation = λ ts. negation_by (sees_word (codes "NOT") ts) (sees k.LParen ts) ts

  unfoldable pub conjunction : Reader WhenCondition
  conjunction = chain And negation

  unfoldable pub whole : Reader WhenCondition
  whole = chain Or conjunction

  -- what a connective stands between
  abbrev pub operand : Connective → Reader WhenCondition
  operand Or = conjunction
  operand And = negation

abbrev pub level : (Level → Reader WhenCondition) → Level → Reader WhenCondition
level inner Whole = whole inner
level inner Negation = negation inner

-- inside one another, as deep as the number says
unfoldable pub nested : ℕ → Level → Reader WhenCondition
nested zero l = refuse
nested (suc depth) l = level (nested depth) l

-- neither OR nor AND comes next
unfoldable pub no_operator : Reader (Unit {0})
no_operator = λ ts. if sees_word (codes "OR") ts || sees_word (codes "AND") ts then None else Some (tt, ts)

unfoldable pub read_condition : ℕ → Reader WhenCondition
read_condition d = do
  x ← nested d Whole
  no_operator
  pure x

-- ---- options in any order: each turn takes one, or there is none

abbrev pub goes_on : {P : Type 0} → (P → Reader P) → P → Option P → Reader P
goes_on more parts None = pure parts
goes_on more parts (Some next) = more next

unfoldable pub options_from : {P : Type 0} → (P → Reader (Option P)) → ℕ → P → Reader P
options_from option zero parts = refuse
options_from option (suc n) parts = do
  next ← option parts
  goes_on (options_from option n) parts next

abbrev pub found : {P : Type 0} → Reader P → Reader (Option P)
found part = skip >> (part >>= (λ next. pure (Some next)))

-- ---- those of a task

-- behind WAREHOUSE
unfoldable pub task_warehouse : TaskParts → Reader TaskParts
task_warehouse parts = do
  once parts.warehouse
  expect_key k.Equal
  name ← read_name
  pure (record { warehouse = true; minutes = parts.minutes })

-- behind SCHEDULE
unfoldable pub task_schedule : TaskParts → Reader TaskParts
task_schedule parts = do
  once (is_some parts.minutes)
  expect_key k.Equal
  minutes ← read_schedule
  pure (record { warehouse = parts.warehouse; minutes = Some minutes })

abbrev pub task_option_by : TaskParts → Bool → Bool → Reader (Option TaskParts)
task_option_by parts true schedule = found (task_warehouse parts)
task_option_by parts false true = found (task_schedule parts)
task_option_by parts false false = pure None

unfoldable pub task_option : TaskParts → Reader (Option TaskParts)
task_option parts = λ ts. task_option_by parts (sees_word (codes "WAREHOUSE") ts) (sees_word (codes "SCHEDULE") ts) ts

abbrev pub no_task_parts : TaskParts
no_task_parts = record { warehouse = false; minutes = None }

unfoldable pub read_task_options : Reader (Option ℕ)
read_task_options = do
  parts ← options_from task_option 3 no_task_parts
  pure parts.minutes

-- ---- those of a dynamic table

-- behind TARGET_LAG
unfoldable pub table_lag : TableParts → Reader TableParts
table_lag parts = do
  once (is_some parts.lag)
  expect_key k.Equal
  l ← read_lag
  pure (record { lag = Some l; warehouse = parts.warehouse; mode = parts.mode; initialize = parts.initialize })

-- behind WAREHOUSE
unfoldable pub table_warehouse : TableParts → Reader TableParts
table_warehouse parts = do
  once parts.warehouse
  expect_key k.Equal
  name ← read_name
  pure (record { lag = parts.lag; warehouse = true; mode = parts.mode; initialize = parts.initialize })

abbrev pub is_word : List ℕ → List ℕ → Bool
is_word w letters = bytes_eq w letters

abbrev pub mode_of : List ℕ → Option RefreshMode
mode_of w =
    if is_word w (codes "AUTO") then Some mode.Auto
    else if is_word w (codes "FULL") then Some mode.Full
    else if is_word w (codes "INCREMENTAL") then Some mode.Incremental
    else None

-- a word that says a value, given once
abbrev pub worded : {X : Type 0} → Bool → (List ℕ → Option X) → (X → TableParts) → Reader TableParts
worded is_given value_of put = do
  once is_given
  expect_key k.Equal
  w ← read_word
  x ← given (value_of w)
  pure (put x)

-- behind REFRESH_MODE
unfoldable pub table_mode : TableParts → Reader TableParts
table_mode parts = worded (is_some parts.mode) mode_of
    (λ m. record { lag = parts.lag; warehouse = parts.warehouse; mode = Some m; initialize = parts.initialize })

abbrev pub initialize_of : List ℕ → Option Initialize
initialize_of w =
    if is_word w (codes "ON_CREATE") then Some init.OnCreate
    else if is_word w (codes "ON_SCHEDULE") then Some init.OnSchedule
    else None

-- behind INITIALIZE
unfoldable pub table_initialize : TableParts → Reader TableParts
table_initialize parts = worded (is_some parts.initialize) initialize_of
    (λ i. record { lag = parts.lag; warehouse = parts.warehouse; mode = parts.mode; initialize = Some i })

abbrev pub table_option_by : TableParts → Bool → Bool → Bool → Bool → Reader (Option TableParts)
table_option_by parts true w m i = found (table_lag parts)
table_option_by parts false true m i = found (table_warehouse parts)
table_option_by parts false false true i = found (table_mode parts)
table_option_by parts false false false true = found (table_initialize parts)
table_option_by parts false false false false = pure None

unfoldable pub table_option : TableParts → Reader (Option TableParts)
table_option parts = λ ts. table_option_by parts (sees_word (codes "TARGET_LAG") ts) (sees_word (codes "WAREHOUSE") ts)
    (sees_word (codes "REFRESH_MODE") ts) (sees_word (codes "INITIALIZE") ts) ts

abbrev pub no_table_parts : TableParts
no_table_parts = record { lag = None; warehouse = false; mode = None; initialize = None }

unfoldable pub read_table_options : Reader (Lag × (RefreshMode × Initialize))
read_table_options = do
  parts ← options_from table_option 5 no_table_parts
  l ← given parts.lag
  pure (l, (unwrap_or parts.mode mode.Auto, unwrap_or parts.initialize init.OnCreate))
