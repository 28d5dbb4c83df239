-- The new names and columns of a script are not empty, and its changes stand in its text.
--     tokens_filled                   no word and no quoted name is empty
--     columns_filled                  columns of tokens
--     script_filled                   the events of a script
use Rattle.std.proofs.Common.{◌≡◌, ℕ, ◌<◌, List, [], ◌∷◌, ◌++◌, length, map, Option, None, refl, subst, sym, arith, ◌⊎◌}
use Rattle.std.specs.Prelude.{◌≢◌}
use Rattle.std.specs.List.{AllByRecursion}
use Rattle.wh_value.specs.View.{column_of}
use Rattle.wh_value.specs.declared.column.Column.{Column}
use Rattle.wh_ast.specs.declared.statement.Statement.{Statement}
use Rattle.wh_ast.specs.declared.statement.CreateTask.{CreateTask}
use Rattle.wh_ast.specs.declared.statement.CreateDynamicTable.{CreateDynamicTable}
use Rattle.wh_ast.specs.declared.statement.Lag.{Lag}
use Rattle.wh_ast.specs.declared.statement.RefreshMode.{RefreshMode}
use Rattle.wh_ast.specs.declared.statement.Initialize.{Initialize}
use Rattle.wh_grammar.specs.Token.{Token, Placed}
use Rattle.wh_grammar.specs.Lexing as lexing
use Rattle.wh_grammar.specs.Lexing.{IsBare, IsEnclosed, IsSign, IsToken, bare, enclosed, signed, HasTokens, end, gap}
use Rattle.wh_grammar.specs.Lexing.{token}
use Rattle.wh_grammar.specs.Parts.{AreColumns, last_column, more_columns, MayReplace, no_replace, or_replace}
use Rattle.wh_grammar.specs.Spelled.{IsTableStatement, create_table, drop_table, IsStreamStatement, create_stream}
use Rattle.wh_grammar.specs.Spelled.{drop_stream, IsTaskStatement, IsDynamicTableStatement, IsTransactionStatement}
use Rattle.wh_grammar.specs.Spelled.{IsPlain, of_table, of_stream, of_task, of_dynamic_table, of_transaction, tokens_of}
use Rattle.wh_grammar.specs.Spelled as spelled
use Rattle.wh_grammar.specs.Spelled.{IsTaskHead, task_head, IsTask, IsTableHead, IsDynamicTable}
use Rattle.wh_grammar.specs.Spelled.{IsStatement, plain, Spells, Request, TooLong, Unreadable, Asked, Asks, is_long}
use Rattle.wh_grammar.specs.Spelled.{spells_none, spells}
use Rattle.wh_grammar.specs.Script.{Line, lines_of}
use Rattle.wh_machine.specs.Step.{Event}
use Rattle.wh_machine.specs.Script.{HasEvents, ends, sets_session, ticks, ticks_at, commands, IsScript}
use Rattle.wh_machine.proofs.TaskMade.{IsFilledTask}
use Rattle.wh_machine.proofs.TokensFilled.{TokenFilled, AllFilled, name_filled}
use Rattle.wh_machine.proofs.DynamicMade.{IsFilledDynamic}
use Rattle.wh_machine.proofs.ReachedLaws.{IsFilled, IsFilledRequest, IsFilledEvent}

-- ---- tokens

some_bytes : (bytes : List ℕ) → bytes ≢ [] → 0 < length bytes
some_bytes [] none = absurd (none refl)
some_bytes (b ∷ bytes) none = omega arith

bare_filled : (bytes rest : List ℕ) (t : Token) → IsBare bytes t rest → TokenFilled t
bare_filled bytes rest t (lexing.word b more is begins goes behind text t_is) =
    subst TokenFilled (sym t_is) (omega arith)
bare_filled bytes rest t (lexing.number digits is some all few behind t_is) = subst TokenFilled (sym t_is) tt

enclosed_filled : (bytes rest : List ℕ) (t : Token) → IsEnclosed bytes t rest → TokenFilled t
enclosed_filled bytes rest t (lexing.text inside is text all behind t_is) = subst TokenFilled (sym t_is) tt
enclosed_filled bytes rest t (lexing.quoted inside is text some behind t_is) =
    subst TokenFilled (sym t_is) (some_bytes inside some)

sign_filled : (bytes rest : List ℕ) (t : Token) → IsSign bytes t rest → TokenFilled t
sign_filled bytes rest t (lexing.sign s is behind t_is) = subst TokenFilled (sym t_is) tt
sign_filled bytes rest t (lexing.other_unequal is t_is) = subst TokenFilled (sym t_is) tt

token_filled : (bytes rest : List ℕ) (t : Token) → IsToken bytes t rest → TokenFilled t
token_filled bytes rest t (bare is) = bare_filled bytes rest t is
token_filled bytes rest t (enclosed is) = enclosed_filled bytes rest t is
token_filled bytes rest t (signed is) = sign_filled bytes rest t is

pub tokens_filled : (bytes : List ℕ) (placed : List Placed) → HasTokens bytes placed → AllFilled (tokens_of placed)
tokens_filled bytes placed end = tt
tokens_filled bytes placed (gap {rest = rest} is more) = tokens_filled rest placed more
tokens_filled bytes (p ∷ placed) (token {rest = rest} is more) =
    (token_filled bytes rest p.token is, tokens_filled rest placed more)

-- ---- names and columns

pub columns_filled : (ts us : List Token) (columns : List Column) → AreColumns ts columns us → AllFilled ts
    → (0 < length columns) × AllByRecursion (λ column. 0 < length column.name) (map column_of columns)
columns_filled ts us columns (last_column is type) filled = (omega arith, ((name_filled _ _ _ is filled).0, tt))
columns_filled ts us columns (more_columns is type more) filled =
    let here = name_filled _ _ _ is filled in
    (omega arith, (here.0, (columns_filled _ _ _ more here.1.1.1).1))

replace_filled : {ts us : List Token} {replace : _} → MayReplace ts replace us → AllFilled ts → AllFilled us
replace_filled no_replace filled = filled
replace_filled or_replace filled = filled.1.1

-- ---- statements

table_filled : (ts : List Token) (s : Statement) → IsTableStatement ts s → AllFilled ts → IsFilled s
table_filled ts s (drop_table is) filled = tt
table_filled ts s (create_table replaces is are retains) filled =
    let here = name_filled _ _ _ is (replace_filled replaces filled.1).1 in
    let columns = columns_filled _ _ _ are here.1.1 in
    record { name = here.0; some_column = some_mapped _ columns.0; columns = columns.1 }
  where
    some_mapped : (columns : List Column) → 0 < length columns → 0 < length (map column_of columns)
    some_mapped [] some = absurd (omega arith)
    some_mapped (c ∷ cs) some = omega arith

stream_filled : (ts : List Token) (s : Statement) → IsStreamStatement ts s → AllFilled ts → IsFilled s
stream_filled ts s (drop_stream is) filled = tt
stream_filled ts s (create_stream is on appends) filled = (name_filled _ _ _ is filled.1.1).0

task_filled : (ts : List Token) (s : Statement) → IsTaskStatement ts s → IsFilled s
task_filled ts s (spelled.resume_task is) = tt
task_filled ts s (spelled.suspend_task is) = tt
task_filled ts s (spelled.execute_task is) = tt
task_filled ts s (spelled.drop_task is) = tt

dynamic_filled : (ts : List Token) (s : Statement) → IsDynamicTableStatement ts s → IsFilled s
dynamic_filled ts s (spelled.resume_table is) = tt
dynamic_filled ts s (spelled.suspend_table is) = tt
dynamic_filled ts s (spelled.refresh_table is) = tt
dynamic_filled ts s (spelled.set_lag is lag) = tt
dynamic_filled ts s (spelled.drop_dynamic_table is) = tt

transaction_filled : (ts : List Token) (s : Statement) → IsTransactionStatement ts s → IsFilled s
transaction_filled ts s spelled.begin = tt
transaction_filled ts s spelled.begin_transaction = tt
transaction_filled ts s spelled.begin_work = tt
transaction_filled ts s spelled.start_transaction = tt
transaction_filled ts s (spelled.commit may) = tt
transaction_filled ts s (spelled.rollback may) = tt

plain_filled : (ts : List Token) (s : Statement) → IsPlain ts s → AllFilled ts → IsFilled s
plain_filled ts s (spelled.select is order) filled = tt
plain_filled ts s (spelled.has_data is) filled = tt
plain_filled ts s (spelled.dml is) filled = (ts, is)
plain_filled ts s (of_table is) filled = table_filled ts s is filled
plain_filled ts s (of_stream is) filled = stream_filled ts s is filled
plain_filled ts s (of_task is) filled = task_filled ts s is
plain_filled ts s (of_dynamic_table is) filled = dynamic_filled ts s is
plain_filled ts s (of_transaction is) filled = transaction_filled ts s is

first_filled : (head body : List Placed) → AllFilled (tokens_of (head ++ body)) → AllFilled (tokens_of head)
first_filled [] body filled = tt
first_filled (p ∷ ps) body filled = (filled.0, first_filled ps body filled.1)

head_filled : (ts us : List Token) (name : List ℕ) (minutes : Option ℕ) (after : List (List ℕ))
    → IsTaskHead ts name minutes after us → AllFilled ts → (0 < length name) × ((minutes ≡ None) ⊎ (after ≡ []))
head_filled ts us name minutes after (task_head is options gives behind either) filled =
    ((name_filled _ _ _ is filled.1.1).0, either)

created_filled : (text : List ℕ) (placed : List Placed) (t : CreateTask) → IsTask text placed t
    → AllFilled (tokens_of placed) → IsFilledTask t
created_filled text placed t (spelled.task head body split is_head is_body kept) filled =
    let here = head_filled _ _ _ _ _ is_head (first_filled head body
    (subst (λ (ps : List Placed). AllFilled (tokens_of ps)) split filled)) in
    record { name = here.0; either = here.1; body = (tokens_of body, is_body) }
created_filled text placed t
    (spelled.guarded_task head guard body link split is_head is_guard kept link_is is_body body_kept)
    filled =
    let here = head_filled _ _ _ _ _ is_head (first_filled head (guard ++ link ∷ body)
    (subst (λ (ps : List Placed). AllFilled (tokens_of ps)) split filled)) in
    record { name = here.0; either = here.1; body = (tokens_of body, is_body) }

behind_head : (head body : List Placed) → AllFilled (tokens_of (head ++ body)) → AllFilled (tokens_of body)
behind_head [] body filled = filled
behind_head (p ∷ ps) body filled = behind_head ps body filled.1

dynamic_made_filled : (text : List ℕ) (placed : List Placed) (t : CreateDynamicTable) → IsDynamicTable text placed t
    → AllFilled (tokens_of placed) → IsFilledDynamic t
dynamic_made_filled text placed t (spelled.dynamic_table head body split is_head is_query kept) filled =
    let all : AllFilled (tokens_of (head ++ body)) =
    subst (λ (ps : List Placed). AllFilled (tokens_of ps)) split filled in
    let own : AllFilled (tokens_of head) = first_filled head body all in
    record {
      name = of_head is_head own;
      tokens = tokens_of body;
      behind = [];
      query = is_query;
      filled = behind_head head body all;
    }
  where
    of_head : {ts us : List Token} {name : List ℕ} {l : Lag} {m : RefreshMode} {i : Initialize}
        → IsTableHead ts name l m i us → AllFilled ts → 0 < length name
    of_head (spelled.table_head is options gives) filled = (name_filled _ _ _ is filled.1.1.1).0

statement_filled : (text : List ℕ) (placed : List Placed) (s : Statement) → IsStatement text placed s
    → AllFilled (tokens_of placed) → IsFilled s
statement_filled text placed s (plain is) filled = plain_filled (tokens_of placed) s is filled
statement_filled text placed s (spelled.create_task is) filled = created_filled text placed _ is filled
statement_filled text placed s (spelled.create_dynamic_table is) filled = dynamic_made_filled text placed _ is filled

request_filled : (text : List ℕ) (request : Request) → Asks text request → IsFilledRequest request
request_filled text request (is_long long) = tt
request_filled text request (spells_none short none) = tt
request_filled text request (spells s short is) =
    statement_filled text is.placed s is.is_statement (tokens_filled text is.placed is.tokens)

-- ---- scripts

events_filled : (session reading : ℕ) (lines : List Line) (es : List Event) → HasEvents session reading lines es
    → AllByRecursion IsFilledEvent es
events_filled session reading lines es ends = tt
events_filled session reading lines es (sets_session {n = n} {lines = others} more) =
    events_filled n reading others es more
events_filled session reading lines (e ∷ es) (ticks {lines = others} more) =
    (tt, events_filled session reading others es more)
events_filled session reading lines (e ∷ es) (ticks_at {n = n} {lines = others} more) =
    (tt, events_filled session n others es more)
events_filled session reading lines (e ∷ es) (commands {text = text} {request = request} {lines = others} asks more) =
    (request_filled text request asks, events_filled session reading others es more)

pub script_filled : (script : List ℕ) (es : List Event) → IsScript script es → AllByRecursion IsFilledEvent es
script_filled script es is = events_filled 1 0 (lines_of script) es is
