-- Which texts spell a statement, and which.
--     IsTableStatement, IsStreamStatement, ..     tokens of a statement of one family
--     IsPlain         tokens of a statement that keeps none of its text
--     IsKept          a part of its text that a statement keeps
--     IsTask, IsDynamicTable     placed tokens of a statement that keeps some
--     IsStatement     placed tokens of a statement
--     Spells          a text spells it
--     Asks            what a command's text asks for
use Rattle.std.specs.Prelude.{◌≡◌, ℕ, ◌-◌, ◌<◌, ◌≤◌, ◌⊎◌, Bool, List, [], ◌∷◌, ◌++◌, Option, Some, None, length, map}
use Rattle.std.specs.Prelude.{take, drop, codes, IsUtf8}
use Rattle.wh_value.specs.Limit.{bound}
use Rattle.wh_value.specs.declared.limit.Limit.TheVariants as limits
use Rattle.wh_value.specs.declared.column.Column.{Column}
use Rattle.wh_ast.specs.declared.query.Query.{Query}
use Rattle.wh_ast.specs.declared.query.Sort.{Sort}
use Rattle.wh_ast.specs.declared.dml.Dml.{Dml}
use Rattle.wh_ast.specs.declared.statement.Statement.{Statement}
use Rattle.wh_ast.specs.declared.statement.Statement.TheVariants as st
use Rattle.wh_ast.specs.declared.statement.CreateTask.{CreateTask}
use Rattle.wh_ast.specs.declared.statement.CreateDynamicTable.{CreateDynamicTable}
use Rattle.wh_ast.specs.declared.statement.When.{When}
use Rattle.wh_ast.specs.declared.statement.WhenCondition.{WhenCondition}
use Rattle.wh_ast.specs.declared.statement.Lag.{Lag}
use Rattle.wh_ast.specs.declared.statement.RefreshMode.{RefreshMode}
use Rattle.wh_ast.specs.declared.statement.Initialize.{Initialize}
use Rattle.wh_grammar.specs.Token.{Token, Word, SignToken, LParen, RParen, Equal, Placed}
use Rattle.wh_grammar.specs.Lexing.{HasTokens}
use Rattle.wh_grammar.specs.Name.{IsName}
use Rattle.wh_grammar.specs.Query.{IsQuery}
use Rattle.wh_grammar.specs.Changing.{IsDml, AreNames}
use Rattle.wh_grammar.specs.Parts.{AreColumns, MayReplace, MayRetain, MayAppend, MayHaveOrder, IsLag, AsksForData}
use Rattle.wh_grammar.specs.Parts.{IsCondition, TaskOption, AreTaskOptions, TaskOptionsGive, TableOption}
use Rattle.wh_grammar.specs.Parts.{AreTableOptions, TableOptionsGive}

-- how many parentheses, NOT and minus signs may stand inside one another
abbrev pub most_nested : ℕ
most_nested = 64

-- a word that may be left out, at the end
pub data MayEnd (w : List ℕ) : List Token → Type 0 where
  without : MayEnd w []
  with : MayEnd w (Word w ∷ [])

-- ---- statements that keep none of their text

pub data IsTableStatement : List Token → Statement → Type 0 where
  create_table : {ts us vs ws : List Token} {replace : Bool} {name : List ℕ} {columns : List Column}
      {retention : Option ℕ}
      → MayReplace ts replace (Word (codes "TABLE") ∷ us)
      → IsName us name (SignToken LParen ∷ vs)
      → AreColumns vs columns (SignToken RParen ∷ ws)
      → MayRetain ws retention
      → IsTableStatement (Word (codes "CREATE") ∷ ts) (st.CreateTable (record {
        replace = replace;
        name = name;
        columns = columns;
        retention = retention;
      }))
  drop_table : {ts : List Token} {name : List ℕ}
      → IsName ts name []
      → IsTableStatement (Word (codes "DROP") ∷ Word (codes "TABLE") ∷ ts) (st.DropTable name)

pub data IsStreamStatement : List Token → Statement → Type 0 where
  create_stream : {ts us vs : List Token} {name table : List ℕ} {append_only : Bool}
      → IsName ts name (Word (codes "ON") ∷ Word (codes "TABLE") ∷ us)
      → IsName us table vs
      → MayAppend vs append_only
      → IsStreamStatement (Word (codes "CREATE") ∷ Word (codes "STREAM") ∷ ts) (st.CreateStream name table append_only)
  drop_stream : {ts : List Token} {name : List ℕ}
      → IsName ts name []
      → IsStreamStatement (Word (codes "DROP") ∷ Word (codes "STREAM") ∷ ts) (st.DropStream name)

-- all but CREATE TASK
pub data IsTaskStatement : List Token → Statement → Type 0 where
  resume_task : {ts : List Token} {name : List ℕ}
      → IsName ts name (Word (codes "RESUME") ∷ [])
      → IsTaskStatement (Word (codes "ALTER") ∷ Word (codes "TASK") ∷ ts) (st.ResumeTask name)
  suspend_task : {ts : List Token} {name : List ℕ}
      → IsName ts name (Word (codes "SUSPEND") ∷ [])
      → IsTaskStatement (Word (codes "ALTER") ∷ Word (codes "TASK") ∷ ts) (st.SuspendTask name)
  execute_task : {ts : List Token} {name : List ℕ}
      → IsName ts name []
      → IsTaskStatement (Word (codes "EXECUTE") ∷ Word (codes "TASK") ∷ ts) (st.ExecuteTask name)
  drop_task : {ts : List Token} {name : List ℕ}
      → IsName ts name []
      → IsTaskStatement (Word (codes "DROP") ∷ Word (codes "TASK") ∷ ts) (st.DropTask name)

-- DYNAMIC TABLE
abbrev pub at_table : List Token → List Token
at_table ts = Word (codes "DYNAMIC") ∷ Word (codes "TABLE") ∷ ts

-- all but CREATE DYNAMIC TABLE
pub data IsDynamicTableStatement : List Token → Statement → Type 0 where
  resume_table : {ts : List Token} {name : List ℕ}
      → IsName ts name (Word (codes "RESUME") ∷ [])
      → IsDynamicTableStatement (Word (codes "ALTER") ∷ at_table ts) (st.ResumeDynamicTable name)
  suspend_table : {ts : List Token} {name : List ℕ}
      → IsName ts name (Word (codes "SUSPEND") ∷ [])
      → IsDynamicTableStatement (Word (codes "ALTER") ∷ at_table ts) (st.SuspendDynamicTable name)
  refresh_table : {ts : List Token} {name : List ℕ}
      → IsName ts name (Word (codes "REFRESH") ∷ [])
      → IsDynamicTableStatement (Word (codes "ALTER") ∷ at_table ts) (st.RefreshDynamicTable name)
  set_lag : {ts us : List Token} {name : List ℕ} {l : Lag}
      → IsName ts name (Word (codes "SET") ∷ Word (codes "TARGET_LAG") ∷ SignToken Equal ∷ us)
      → IsLag us l []
      → IsDynamicTableStatement (Word (codes "ALTER") ∷ at_table ts) (st.SetTargetLag name l)
  drop_dynamic_table : {ts : List Token} {name : List ℕ}
      → IsName ts name []
      → IsDynamicTableStatement (Word (codes "DROP") ∷ at_table ts) (st.DropDynamicTable name)

pub data IsTransactionStatement : List Token → Statement → Type 0 where
  begin : IsTransactionStatement (Word (codes "BEGIN") ∷ []) st.Begin
  begin_transaction : IsTransactionStatement (Word (codes "BEGIN") ∷ Word (codes "TRANSACTION") ∷ []) st.Begin
  begin_work : IsTransactionStatement (Word (codes "BEGIN") ∷ Word (codes "WORK") ∷ []) st.Begin
  start_transaction : IsTransactionStatement (Word (codes "START") ∷ Word (codes "TRANSACTION") ∷ []) st.Begin
  commit : {ts : List Token} → MayEnd (codes "WORK") ts → IsTransactionStatement (Word (codes "COMMIT") ∷ ts) st.Commit
  rollback : {ts : List Token}
      → MayEnd (codes "WORK") ts
      → IsTransactionStatement (Word (codes "ROLLBACK") ∷ ts) st.Rollback

pub data IsPlain : List Token → Statement → Type 0 where
  select : {ts us : List Token} {q : Query} {sorts : List Sort}
      → IsQuery most_nested ts q us
      → MayHaveOrder us sorts
      → IsPlain ts (st.Select q sorts)
  has_data : {ts : List Token} {name : List ℕ}
      → AsksForData ts name []
      → IsPlain (Word (codes "SELECT") ∷ ts) (st.HasData name)
  dml : {ts : List Token} {x : Dml} → IsDml most_nested ts x [] → IsPlain ts (st.Dml x)
  of_table : {ts : List Token} {s : Statement} → IsTableStatement ts s → IsPlain ts s
  of_stream : {ts : List Token} {s : Statement} → IsStreamStatement ts s → IsPlain ts s
  of_task : {ts : List Token} {s : Statement} → IsTaskStatement ts s → IsPlain ts s
  of_dynamic_table : {ts : List Token} {s : Statement} → IsDynamicTableStatement ts s → IsPlain ts s
  of_transaction : {ts : List Token} {s : Statement} → IsTransactionStatement ts s → IsPlain ts s

-- ---- statements that keep a part of their text

abbrev pub tokens_of : List Placed → List Token
tokens_of ts = map (λ t. t.token) ts

-- where the last of the tokens ends
abbrev pub end_of : Placed → List Placed → ℕ
end_of t [] = t.behind
end_of t (u ∷ us) = end_of u us

-- from the first byte of the first token to the last byte of the last, with what stands between as written
abbrev pub written : List ℕ → List Placed → List ℕ
written text [] = []
written text (t ∷ ts) = take (t.from - end_of t ts) (drop (length text - t.from) text)

-- what is kept of some tokens: the text as it is written, of at most 65,536 bytes
pub record IsKept (text : List ℕ) (ts : List Placed) (kept : List ℕ) : Type 0 where
  pub is : kept ≡ written text ts
  pub short : length kept ≤ 65536

-- [AFTER name {, name}]
pub data MayFollow : List Token → List (List ℕ) → List Token → Type 0 where
  follows_none : {ts : List Token} → MayFollow ts [] ts
  follows : {ts us : List Token} {names : List (List ℕ)}
      → AreNames ts names us
      → MayFollow (Word (codes "AFTER") ∷ ts) names us

-- CREATE TASK name options [AFTER names]; not both a schedule and AFTER
pub data IsTaskHead : List Token → List ℕ → Option ℕ → List (List ℕ) → List Token → Type 0 where
  task_head : {ts us vs ws : List Token} {name : List ℕ} {options : List TaskOption} {minutes : Option ℕ}
      {names : List (List ℕ)}
      → IsName ts name us
      → AreTaskOptions us options vs
      → TaskOptionsGive options minutes
      → MayFollow vs names ws
      → (minutes ≡ None) ⊎ (names ≡ [])
      → IsTaskHead (Word (codes "CREATE") ∷ Word (codes "TASK") ∷ ts) name minutes names ws

-- CREATE DYNAMIC TABLE name options
pub data IsTableHead : List Token → List ℕ → Lag → RefreshMode → Initialize → List Token → Type 0 where
  table_head : {ts us vs : List Token} {name : List ℕ} {options : List TableOption}
      {l : Lag} {m : RefreshMode} {i : Initialize}
      → IsName ts name us
      → AreTableOptions us options vs
      → TableOptionsGive options l m i
      → IsTableHead (Word (codes "CREATE") ∷ Word (codes "DYNAMIC") ∷ Word (codes "TABLE") ∷ ts) name l m i vs

abbrev pub task_of : List ℕ → Option ℕ → List (List ℕ) → Option When → Dml → List ℕ → CreateTask
task_of name minutes names guard x kept =
    record { name = name; minutes = minutes; after = names; when = guard; body = x; body_text = kept }

-- CREATE TASK head [WHEN condition] AS dml
pub data IsTask (text : List ℕ) (placed : List Placed) : CreateTask → Type 0 where
  task : (head body : List Placed) {name : List ℕ} {minutes : Option ℕ} {names : List (List ℕ)}
      {x : Dml} {kept : List ℕ}
      → placed ≡ head ++ body
      → IsTaskHead (tokens_of head) name minutes names (Word (codes "AS") ∷ [])
      → IsDml most_nested (tokens_of body) x []
      → IsKept text body kept
      → IsTask text placed (task_of name minutes names None x kept)
  guarded_task : (head guard body : List Placed) (link : Placed) {name : List ℕ} {minutes : Option ℕ}
      {names : List (List ℕ)} {condition : WhenCondition} {x : Dml} {kept body_kept : List ℕ}
      → placed ≡ head ++ (guard ++ link ∷ body)
      → IsTaskHead (tokens_of head) name minutes names (Word (codes "WHEN") ∷ [])
      → IsCondition most_nested (tokens_of guard) condition []
      → IsKept text guard kept
      → link.token ≡ Word (codes "AS")
      → IsDml most_nested (tokens_of body) x []
      → IsKept text body body_kept
      → IsTask text placed
      (task_of name minutes names (Some (record { condition = condition; text = kept })) x body_kept)

-- CREATE DYNAMIC TABLE head AS query
pub data IsDynamicTable (text : List ℕ) (placed : List Placed) : CreateDynamicTable → Type 0 where
  dynamic_table : (head body : List Placed) {name : List ℕ}
      {l : Lag} {m : RefreshMode} {i : Initialize} {q : Query} {kept : List ℕ}
      → placed ≡ head ++ body
      → IsTableHead (tokens_of head) name l m i (Word (codes "AS") ∷ [])
      → IsQuery most_nested (tokens_of body) q []
      → IsKept text body kept
      → IsDynamicTable text placed (record {
        name = name;
        lag = l;
        mode = m;
        initialize = i;
        query = q;
        query_text = kept;
      })

pub data IsStatement (text : List ℕ) (placed : List Placed) : Statement → Type 0 where
  plain : {s : Statement} → IsPlain (tokens_of placed) s → IsStatement text placed s
  create_task : {t : CreateTask} → IsTask text placed t → IsStatement text placed (st.CreateTask t)
  create_dynamic_table : {t : CreateDynamicTable}
      → IsDynamicTable text placed t
      → IsStatement text placed (st.CreateDynamicTable t)

pub record Spells (text : List ℕ) (statement : Statement) : Type 0 where
  pub utf8 : IsUtf8 text
  pub placed : List Placed
  pub tokens : HasTokens text placed
  pub is_statement : IsStatement text placed statement

-- what a command's text asks for: nothing, where it is longer than a statement may be or spells none
pub data Request : Type 0 where
  TooLong : Request
  Unreadable : Request
  Asked : Statement → Request

pub data Asks (text : List ℕ) : Request → Type 0 where
  is_long : bound limits.Statement < length text → Asks text TooLong
  spells_none : length text ≤ bound limits.Statement → ((s : Statement) → Spells text s → ⊥) → Asks text Unreadable
  spells : (s : Statement) → length text ≤ bound limits.Statement → Spells text s → Asks text (Asked s)
