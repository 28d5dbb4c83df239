-- How a text is read as a statement.
--     verb_of            what the first word begins
--     statement_of       the statement of placed tokens
--     read_statement     the statement that a text's bytes spell
use Rattle.std.specs.Prelude.{ℕ, false, if◌then◌else◌, List, Option, Some, None, option_map, codes}
use Rattle.std.specs.Str.{is_utf8}
use Rattle.wh_ast.specs.declared.statement.Statement.{Statement}
use Rattle.wh_ast.specs.declared.statement.Statement.TheVariants as st
use Rattle.wh_grammar.specs.Token.{Token, Placed}
use Rattle.wh_grammar.specs.Spelled.{tokens_of}
use Rattle.wh_lex.specs.Read.{read_tokens}
use Rattle.wh_cursor.specs.Steps.{Reader, ◌>>=◌, ◌>>◌, pure, refuse, skip, sees_word, read_end}
use Rattle.wh_stmt_parse.specs.declared.verb.Verb.{Verb}
use Rattle.wh_stmt_parse.specs.declared.verb.Verb.TheVariants as verb
use Rattle.wh_stmt_parse.specs.declared.verb.Object.{Object}
use Rattle.wh_stmt_parse.specs.declared.verb.Object.TheVariants as object
use Rattle.wh_stmt_parse.specs.Plain.{read_select, read_change, read_table, read_replacement, read_stream, read_alter}
use Rattle.wh_stmt_parse.specs.Plain.{read_execute, read_drop, read_begin, read_start, read_ending}
use Rattle.wh_stmt_parse.specs.KeptText.{read_task, read_dynamic_table}

unfoldable pub verb_of : List Token → Verb
verb_of ts =
    if sees_word (codes "SELECT") ts then verb.Select
    else if sees_word (codes "CREATE") ts then verb.Create
    else if sees_word (codes "ALTER") ts then verb.Alter
    else if sees_word (codes "EXECUTE") ts then verb.Execute
    else if sees_word (codes "DROP") ts then verb.Drop
    else if sees_word (codes "BEGIN") ts then verb.Begin
    else if sees_word (codes "START") ts then verb.Start
    else if sees_word (codes "COMMIT") ts then verb.Commit
    else if sees_word (codes "ROLLBACK") ts then verb.Rollback
    else verb.Change

-- what is created
unfoldable pub object_of : List Token → Object
object_of ts =
    if sees_word (codes "TABLE") ts then object.Table
    else if sees_word (codes "OR") ts then object.Replacement
    else if sees_word (codes "STREAM") ts then object.Stream
    else if sees_word (codes "TASK") ts then object.Task
    else if sees_word (codes "DYNAMIC") ts then object.DynamicTable
    else object.Nothing

module _ (text : List ℕ) (placed : List Placed) where
  abbrev pub create_by : Object → Reader Statement
  create_by object.Table = skip >> read_table false
  create_by object.Replacement = skip >> read_replacement
  create_by object.Stream = skip >> read_stream
  create_by object.Task = skip >> read_task text placed
  create_by object.DynamicTable = skip >> read_dynamic_table text placed
  create_by object.Nothing = refuse

  unfoldable pub read_create : Reader Statement
  read_create = λ ts. create_by (object_of ts) ts

  -- behind the first word
  abbrev pub behind_verb : Verb → Reader Statement
  behind_verb verb.Select = refuse
  behind_verb verb.Create = read_create
  behind_verb verb.Alter = read_alter
  behind_verb verb.Execute = read_execute
  behind_verb verb.Drop = read_drop
  behind_verb verb.Begin = read_begin
  behind_verb verb.Start = read_start
  behind_verb verb.Commit = read_ending st.Commit
  behind_verb verb.Rollback = read_ending st.Rollback
  behind_verb verb.Change = refuse

  abbrev pub by_verb : Verb → Reader Statement
  by_verb verb.Select = read_select
  by_verb verb.Create = skip >> read_create
  by_verb verb.Alter = skip >> read_alter
  by_verb verb.Execute = skip >> read_execute
  by_verb verb.Drop = skip >> read_drop
  by_verb verb.Begin = skip >> read_begin
  by_verb verb.Start = skip >> read_start
  by_verb verb.Commit = skip >> read_ending st.Commit
  by_verb verb.Rollback = skip >> read_ending st.Rollback
  by_verb verb.Change = read_change

  unfoldable pub read_words : Reader Statement
  read_words = λ ts. by_verb (verb_of ts) ts

  -- and nothing stands behind it
  unfoldable pub read_all : Reader Statement
  read_all = do
    statement ← read_words
    read_end
    pure statement

unfoldable pub statement_of : List ℕ → List Placed → Option Statement
statement_of text placed = option_map (λ p. p.0) (read_all text placed (tokens_of placed))

abbrev pub of_tokens : List ℕ → Option (List Placed) → Option Statement
of_tokens text None = None
of_tokens text (Some placed) = statement_of text placed

unfoldable pub read_statement : List ℕ → Option Statement
read_statement text =
    if is_utf8 text then of_tokens text (read_tokens text)
    else None
