-- What is a statement that keeps none of its text is read as it.
use Rattle.std.proofs.Common.{◌≡◌, ℕ, Bool, true, false, List, [], ◌∷◌, Option, Some, refl, sym, ap, ◌∙◌}
use Rattle.std.specs.Prelude.{codes}
use Rattle.wh_value.specs.declared.column.Column.{Column}
use Rattle.wh_ast.specs.declared.query.Query.{Query}
use Rattle.wh_ast.specs.declared.query.Sort.{Sort}
use Rattle.wh_ast.specs.declared.dml.Dml.{Dml}
use Rattle.wh_ast.specs.declared.statement.Lag.{Lag}
use Rattle.wh_ast.specs.declared.statement.Statement.{Statement}
use Rattle.wh_ast.specs.declared.statement.Statement.TheVariants as st
use Rattle.wh_grammar.specs.Token as token
use Rattle.wh_grammar.specs.Token.{Token, Word, SignToken, Placed}
use Rattle.wh_grammar.specs.Name.{IsName}
use Rattle.wh_grammar.specs.Query.{IsQuery}
use Rattle.wh_grammar.specs.Changing as changing
use Rattle.wh_grammar.specs.Changing.{IsDml}
use Rattle.wh_grammar.specs.Parts as parts
use Rattle.wh_grammar.specs.Parts.{IsLag, AreColumns, AsksForData, asks, MayReplace, no_replace, or_replace, MayRetain}
use Rattle.wh_grammar.specs.Parts.{MayAppend, MayHaveOrder}
use Rattle.wh_grammar.specs.Spelled as g
use Rattle.wh_grammar.specs.Spelled.{IsPlain, IsTableStatement, IsStreamStatement, IsTaskStatement}
use Rattle.wh_grammar.specs.Spelled.{IsDynamicTableStatement, IsTransactionStatement, at_table, MayEnd, most_nested}
use Rattle.wh_cursor.specs.declared.key.TokenClass.TheVariants as k
use Rattle.wh_cursor.specs.Keys.{same_key, key_of}
use Rattle.wh_cursor.specs.Steps.{tail, sees, sees_word}
use Rattle.wh_cursor.proofs.Combine.{sees_word_is, expect_word_reads, equal_reads, lparen_reads, rparen_reads}
use Rattle.wh_cursor.proofs.Combine.{name_reads, other_word, end_no_word, sees_key_is}
use Rattle.wh_query_parse.specs.Follow.{ends_query}
use Rattle.wh_stmt_parse.specs.Plain.{read_has_data, read_rows, read_select, read_change, read_table, read_replacement}
use Rattle.wh_stmt_parse.specs.Plain.{read_stream, read_alter_task, read_set_lag, read_alter_table, read_alter}
use Rattle.wh_stmt_parse.specs.Plain.{read_execute, read_drop, read_begin, read_start, read_ending}
use Rattle.wh_stmt_parse.specs.Read.{verb_of, object_of, read_create, read_words}
use Rattle.wh_stmt_parse.proofs.Calls.{query-asks, query-begins}
use Rattle.wh_stmt_parse.proofs.PartsComplete.{columns-reads, retention-reads, append-reads, order-reads}
use Rattle.wh_stmt_parse.proofs.Readers.{Readers}

-- ---- SELECT, and changes of rows

order-ends : {us : List Token} {sorts : List Sort} → MayHaveOrder us sorts → ends_query us ≡ true
order-ends parts.no_order = refl
order-ends (parts.an_order h) = refl

rows-read : Readers → {ts us : List Token} {q : Query} {sorts : List Sort} → IsQuery most_nested ts q us
    → MayHaveOrder us sorts
    → read_rows ts ≡ Some (st.Select q sorts, [])
unfolding read_rows
rows-read r {ts} {us} {q} h order =
    rw ((r.queries most_nested ts q us).1 (record { query = h; ends = order-ends order }), order-reads order) refl

select-read : Readers → {ts us : List Token} {q : Query} {sorts : List Sort} → IsQuery most_nested ts q us
    → MayHaveOrder us sorts
    → read_select ts ≡ Some (st.Select q sorts, [])
unfolding read_select
select-read r h order = rw (query-asks h) (rows-read r h order)

has_data-read : Readers → {ts : List Token} {name : List ℕ} → AsksForData ts name []
    → read_has_data (Word (codes "SELECT") ∷ ts) ≡ Some (st.HasData name, [])
unfolding read_has_data
has_data-read r {ts} {name} h = rw ((r.asked ts name []).1 h) refl

asked-read : Readers → {ts : List Token} {name : List ℕ} → AsksForData ts name []
    → read_select (Word (codes "SELECT") ∷ ts) ≡ Some (st.HasData name, [])
unfolding read_select
asked-read r {ts} {name} (asks {us = us} {bytes = bytes} h) =
    rw (
      sees_word_is (codes "SYSTEM$STREAM_HAS_DATA")
          (SignToken token.LParen ∷ token.TextToken bytes ∷ SignToken token.RParen ∷ us),
      sees_key_is k.LParen (SignToken token.LParen) (token.TextToken bytes ∷ SignToken token.RParen ∷ us) refl,
    ) (has_data-read r (asks h))

change-read : Readers → {ts : List Token} {x : Dml} → IsDml most_nested ts x [] → read_change ts ≡ Some (st.Dml x, [])
unfolding read_change
change-read r {ts} {x} h = rw ((r.dml most_nested ts x []).1 (record { dml = h; ends = refl })) refl

-- ---- CREATE TABLE, CREATE STREAM

no_comma : (us : List Token) → sees k.Comma (SignToken token.RParen ∷ us) ≡ false
unfolding sees same_key key_of
no_comma us = refl

table-read : (replace : Bool) {us vs ws : List Token} {name : List ℕ} {columns : List Column} {retention : Option ℕ}
    → IsName us name (SignToken token.LParen ∷ vs) → AreColumns vs columns (SignToken token.RParen ∷ ws)
    → MayRetain ws retention
    → read_table replace us
    ≡ Some (st.CreateTable (record { replace = replace; name = name; columns = columns; retention = retention }), [])
unfolding read_table
table-read replace {vs = vs} {ws = ws} n cs r =
    rw (name_reads n, lparen_reads vs, columns-reads cs (no_comma ws), rparen_reads ws, retention-reads r) refl

replacement-read : {us vs ws : List Token} {name : List ℕ} {columns : List Column} {retention : Option ℕ}
    → IsName us name (SignToken token.LParen ∷ vs) → AreColumns vs columns (SignToken token.RParen ∷ ws)
    → MayRetain ws retention
    → read_replacement (Word (codes "REPLACE") ∷ Word (codes "TABLE") ∷ us)
    ≡ Some (st.CreateTable (record { replace = true; name = name; columns = columns; retention = retention }), [])
unfolding read_replacement
replacement-read {us = us} n cs r = rw (
  expect_word_reads (codes "REPLACE") (Word (codes "TABLE") ∷ us),
  expect_word_reads (codes "TABLE") us,
) (table-read true n cs r)

stream-read : {ts us vs : List Token} {name table : List ℕ} {append_only : Bool}
    → IsName ts name (Word (codes "ON") ∷ Word (codes "TABLE") ∷ us) → IsName us table vs → MayAppend vs append_only
    → read_stream ts ≡ Some (st.CreateStream name table append_only, [])
unfolding read_stream
stream-read {us = us} n t a = rw (
  name_reads n,
  expect_word_reads (codes "ON") (Word (codes "TABLE") ∷ us),
  expect_word_reads (codes "TABLE") us,
  name_reads t,
  append-reads a,
) refl

-- behind CREATE
created-table : (text : List ℕ) (placed : List Placed) (us : List Token)
    → read_create text placed (Word (codes "TABLE") ∷ us) ≡ read_table false us
unfolding read_create object_of sees_word
created-table text placed us = refl

created-replacement : (text : List ℕ) (placed : List Placed) (us : List Token)
    → read_create text placed (Word (codes "OR") ∷ us) ≡ read_replacement us
unfolding read_create object_of sees_word
created-replacement text placed us = refl

created-stream : (text : List ℕ) (placed : List Placed) (us : List Token)
    → read_create text placed (Word (codes "STREAM") ∷ us) ≡ read_stream us
unfolding read_create object_of sees_word
created-stream text placed us = refl

create-read : (text : List ℕ) (placed : List Placed) {ts us vs ws : List Token} {replace : Bool} {name : List ℕ}
    {columns : List Column} {retention : Option ℕ}
    → MayReplace ts replace (Word (codes "TABLE") ∷ us) → IsName us name (SignToken token.LParen ∷ vs)
    → AreColumns vs columns (SignToken token.RParen ∷ ws) → MayRetain ws retention
    → read_create text placed ts
    ≡ Some (st.CreateTable (record { replace = replace; name = name; columns = columns; retention = retention }), [])
create-read text placed {us = us} no_replace n cs r = created-table text placed us ∙ table-read false n cs r
create-read text placed {us = us} or_replace n cs r =
    created-replacement text placed (Word (codes "REPLACE") ∷ Word (codes "TABLE") ∷ us) ∙ replacement-read n cs r

-- ---- ALTER, EXECUTE, DROP

task-resumed : {ts : List Token} {name : List ℕ} → IsName ts name (Word (codes "RESUME") ∷ [])
    → read_alter_task ts ≡ Some (st.ResumeTask name, [])
unfolding read_alter_task
task-resumed n = rw (name_reads n, sees_word_is (codes "RESUME") []) refl

task-suspended : {ts : List Token} {name : List ℕ} → IsName ts name (Word (codes "SUSPEND") ∷ [])
    → read_alter_task ts ≡ Some (st.SuspendTask name, [])
unfolding read_alter_task
task-suspended n = rw
    (name_reads n, other_word (codes "RESUME") (codes "SUSPEND") [] refl, expect_word_reads (codes "SUSPEND") []) refl

altered-task : (ts : List Token) → read_alter (Word (codes "TASK") ∷ ts) ≡ read_alter_task ts
unfolding read_alter
altered-task ts = rw (sees_word_is (codes "TASK") ts) refl

altered-table : (ts : List Token)
    → read_alter (Word (codes "DYNAMIC") ∷ ts) ≡ read_alter_table (Word (codes "DYNAMIC") ∷ ts)
unfolding read_alter
altered-table ts = rw (other_word (codes "TASK") (codes "DYNAMIC") ts refl) refl

table-resumed : {ts : List Token} {name : List ℕ} → IsName ts name (Word (codes "RESUME") ∷ [])
    → read_alter_table (at_table ts) ≡ Some (st.ResumeDynamicTable name, [])
unfolding read_alter_table
table-resumed {ts} n = rw (
  expect_word_reads (codes "DYNAMIC") (Word (codes "TABLE") ∷ ts),
  expect_word_reads (codes "TABLE") ts,
  name_reads n,
  sees_word_is (codes "RESUME") [],
) refl

table-suspended : {ts : List Token} {name : List ℕ} → IsName ts name (Word (codes "SUSPEND") ∷ [])
    → read_alter_table (at_table ts) ≡ Some (st.SuspendDynamicTable name, [])
unfolding read_alter_table
table-suspended {ts} n = rw (
  expect_word_reads (codes "DYNAMIC") (Word (codes "TABLE") ∷ ts),
  expect_word_reads (codes "TABLE") ts,
  name_reads n,
  other_word (codes "RESUME") (codes "SUSPEND") [] refl,
  sees_word_is (codes "SUSPEND") [],
) refl

table-refreshed : {ts : List Token} {name : List ℕ} → IsName ts name (Word (codes "REFRESH") ∷ [])
    → read_alter_table (at_table ts) ≡ Some (st.RefreshDynamicTable name, [])
unfolding read_alter_table
table-refreshed {ts} n = rw (
  expect_word_reads (codes "DYNAMIC") (Word (codes "TABLE") ∷ ts),
  expect_word_reads (codes "TABLE") ts,
  name_reads n,
  other_word (codes "RESUME") (codes "REFRESH") [] refl,
  other_word (codes "SUSPEND") (codes "REFRESH") [] refl,
  sees_word_is (codes "REFRESH") [],
) refl

lag-set : Readers → {us : List Token} {l : Lag} (name : List ℕ) → IsLag us l []
    → read_set_lag name (Word (codes "SET") ∷ Word (codes "TARGET_LAG") ∷ SignToken token.Equal ∷ us)
    ≡ Some (st.SetTargetLag name l, [])
unfolding read_set_lag
lag-set r {us} {l} name h = rw (
  expect_word_reads (codes "SET") (Word (codes "TARGET_LAG") ∷ SignToken token.Equal ∷ us),
  expect_word_reads (codes "TARGET_LAG") (SignToken token.Equal ∷ us),
  equal_reads us,
  (r.lags us l []).1 h,
) refl

table-set : Readers → {ts us : List Token} {name : List ℕ} {l : Lag}
    → IsName ts name (Word (codes "SET") ∷ Word (codes "TARGET_LAG") ∷ SignToken token.Equal ∷ us) → IsLag us l []
    → read_alter_table (at_table ts) ≡ Some (st.SetTargetLag name l, [])
unfolding read_alter_table
table-set r {ts} {us} {name} n h =
    let rest : List Token = Word (codes "TARGET_LAG") ∷ SignToken token.Equal ∷ us in
    rw (
      expect_word_reads (codes "DYNAMIC") (Word (codes "TABLE") ∷ ts),
      expect_word_reads (codes "TABLE") ts,
      name_reads n,
      other_word (codes "RESUME") (codes "SET") rest refl,
      other_word (codes "SUSPEND") (codes "SET") rest refl,
      other_word (codes "REFRESH") (codes "SET") rest refl,
    ) (lag-set r name h)

execute-read : {ts : List Token} {name : List ℕ} → IsName ts name []
    → read_execute (Word (codes "TASK") ∷ ts) ≡ Some (st.ExecuteTask name, [])
unfolding read_execute
execute-read {ts} n = rw (expect_word_reads (codes "TASK") ts, name_reads n) refl

dropped-table : {ts : List Token} {name : List ℕ} → IsName ts name []
    → read_drop (Word (codes "TABLE") ∷ ts) ≡ Some (st.DropTable name, [])
unfolding read_drop
dropped-table {ts} n = rw (sees_word_is (codes "TABLE") ts, name_reads n) refl

dropped-stream : {ts : List Token} {name : List ℕ} → IsName ts name []
    → read_drop (Word (codes "STREAM") ∷ ts) ≡ Some (st.DropStream name, [])
unfolding read_drop
dropped-stream {ts} n =
    rw (other_word (codes "TABLE") (codes "STREAM") ts refl, sees_word_is (codes "STREAM") ts, name_reads n) refl

dropped-task : {ts : List Token} {name : List ℕ} → IsName ts name []
    → read_drop (Word (codes "TASK") ∷ ts) ≡ Some (st.DropTask name, [])
unfolding read_drop
dropped-task {ts} n = rw (
  other_word (codes "TABLE") (codes "TASK") ts refl,
  other_word (codes "STREAM") (codes "TASK") ts refl,
  sees_word_is (codes "TASK") ts,
  name_reads n,
) refl

dropped-dynamic_table : {ts : List Token} {name : List ℕ} → IsName ts name []
    → read_drop (at_table ts) ≡ Some (st.DropDynamicTable name, [])
unfolding read_drop
dropped-dynamic_table {ts} n =
    let rest : List Token = Word (codes "TABLE") ∷ ts in
    rw (
      other_word (codes "TABLE") (codes "DYNAMIC") rest refl,
      other_word (codes "STREAM") (codes "DYNAMIC") rest refl,
      other_word (codes "TASK") (codes "DYNAMIC") rest refl,
      expect_word_reads (codes "DYNAMIC") rest,
      expect_word_reads (codes "TABLE") ts,
      name_reads n,
    ) refl

-- ---- transactions

begin-alone : read_begin [] ≡ Some (st.Begin, [])
unfolding read_begin
begin-alone = rw (end_no_word (codes "TRANSACTION"), end_no_word (codes "WORK")) refl

begin-transaction : read_begin (Word (codes "TRANSACTION") ∷ []) ≡ Some (st.Begin, [])
unfolding read_begin
begin-transaction = rw (sees_word_is (codes "TRANSACTION") []) refl

begin-work : read_begin (Word (codes "WORK") ∷ []) ≡ Some (st.Begin, [])
unfolding read_begin
begin-work = rw (other_word (codes "TRANSACTION") (codes "WORK") [] refl, sees_word_is (codes "WORK") []) refl

start-read : read_start (Word (codes "TRANSACTION") ∷ []) ≡ Some (st.Begin, [])
unfolding read_start
start-read = rw (expect_word_reads (codes "TRANSACTION") []) refl

ending-read : (made : Statement) {ts : List Token} → MayEnd (codes "WORK") ts → read_ending made ts ≡ Some (made, [])
unfolding read_ending
ending-read made g.without = rw (end_no_word (codes "WORK")) refl
ending-read made g.with = rw (sees_word_is (codes "WORK") []) refl

-- ---- by the first word

module _ (text : List ℕ) (placed : List Placed) where
  at-select : (ts : List Token)
      → read_words text placed (Word (codes "SELECT") ∷ ts) ≡ read_select (Word (codes "SELECT") ∷ ts)
  unfolding read_words verb_of sees_word
  at-select ts = refl

  pub at-create : (ts : List Token) → read_words text placed (Word (codes "CREATE") ∷ ts) ≡ read_create text placed ts
  unfolding read_words verb_of sees_word
  at-create ts = refl

  at-alter : (ts : List Token) → read_words text placed (Word (codes "ALTER") ∷ ts) ≡ read_alter ts
  unfolding read_words verb_of sees_word
  at-alter ts = refl

  at-alter_table : (ts : List Token)
      → read_words text placed (Word (codes "ALTER") ∷ at_table ts) ≡ read_alter_table (at_table ts)
  at-alter_table ts = at-alter (at_table ts) ∙ altered-table (Word (codes "TABLE") ∷ ts)

  at-execute : (ts : List Token) → read_words text placed (Word (codes "EXECUTE") ∷ ts) ≡ read_execute ts
  unfolding read_words verb_of sees_word
  at-execute ts = refl

  at-drop : (ts : List Token) → read_words text placed (Word (codes "DROP") ∷ ts) ≡ read_drop ts
  unfolding read_words verb_of sees_word
  at-drop ts = refl

  at-begin : (ts : List Token) → read_words text placed (Word (codes "BEGIN") ∷ ts) ≡ read_begin ts
  unfolding read_words verb_of sees_word
  at-begin ts = refl

  at-start : (ts : List Token) → read_words text placed (Word (codes "START") ∷ ts) ≡ read_start ts
  unfolding read_words verb_of sees_word
  at-start ts = refl

  at-commit : (ts : List Token) → read_words text placed (Word (codes "COMMIT") ∷ ts) ≡ read_ending st.Commit ts
  unfolding read_words verb_of sees_word
  at-commit ts = refl

  at-rollback : (ts : List Token) → read_words text placed (Word (codes "ROLLBACK") ∷ ts) ≡ read_ending st.Rollback ts
  unfolding read_words verb_of sees_word
  at-rollback ts = refl

  at-change : {d : ℕ} {ts us : List Token} {x : Dml} → IsDml d ts x us → read_words text placed ts ≡ read_change ts
  unfolding read_words verb_of sees_word
  at-change (changing.insert _ _ _) = refl
  at-change (changing.update _ _ _) = refl
  at-change (changing.delete _ _) = refl
  at-change (changing.merge _ _ _ _ _) = refl

  table-read-at : {ts : List Token} {s : Statement} → IsTableStatement ts s → read_words text placed ts ≡ Some (s, [])
  table-read-at (g.create_table {ts = ts} replaces n cs retained) =
      at-create ts ∙ create-read text placed replaces n cs retained
  table-read-at (g.drop_table {ts = ts} n) = at-drop (Word (codes "TABLE") ∷ ts) ∙ dropped-table n

  stream-read-at : {ts : List Token} {s : Statement} → IsStreamStatement ts s
      → read_words text placed ts ≡ Some (s, [])
  stream-read-at (g.create_stream {ts = ts} n t a) =
      at-create (Word (codes "STREAM") ∷ ts) ∙ created-stream text placed ts ∙ stream-read n t a
  stream-read-at (g.drop_stream {ts = ts} n) = at-drop (Word (codes "STREAM") ∷ ts) ∙ dropped-stream n

  task-read-at : {ts : List Token} {s : Statement} → IsTaskStatement ts s → read_words text placed ts ≡ Some (s, [])
  task-read-at (g.resume_task {ts = ts} n) = at-alter (Word (codes "TASK") ∷ ts) ∙ altered-task ts ∙ task-resumed n
  task-read-at (g.suspend_task {ts = ts} n) = at-alter (Word (codes "TASK") ∷ ts) ∙ altered-task ts ∙ task-suspended n
  task-read-at (g.execute_task {ts = ts} n) = at-execute (Word (codes "TASK") ∷ ts) ∙ execute-read n
  task-read-at (g.drop_task {ts = ts} n) = at-drop (Word (codes "TASK") ∷ ts) ∙ dropped-task n

  dynamic_table-read-at : Readers → {ts : List Token} {s : Statement} → IsDynamicTableStatement ts s
      → read_words text placed ts ≡ Some (s, [])
  dynamic_table-read-at r (g.resume_table {ts = ts} n) = at-alter_table ts ∙ table-resumed n
  dynamic_table-read-at r (g.suspend_table {ts = ts} n) = at-alter_table ts ∙ table-suspended n
  dynamic_table-read-at r (g.refresh_table {ts = ts} n) = at-alter_table ts ∙ table-refreshed n
  dynamic_table-read-at r (g.set_lag {ts = ts} n l) = at-alter_table ts ∙ table-set r n l
  dynamic_table-read-at r (g.drop_dynamic_table {ts = ts} n) = at-drop (at_table ts) ∙ dropped-dynamic_table n

  transaction-read-at : {ts : List Token} {s : Statement} → IsTransactionStatement ts s
      → read_words text placed ts ≡ Some (s, [])
  transaction-read-at g.begin = at-begin [] ∙ begin-alone
  transaction-read-at g.begin_transaction = at-begin (Word (codes "TRANSACTION") ∷ []) ∙ begin-transaction
  transaction-read-at g.begin_work = at-begin (Word (codes "WORK") ∷ []) ∙ begin-work
  transaction-read-at g.start_transaction = at-start (Word (codes "TRANSACTION") ∷ []) ∙ start-read
  transaction-read-at (g.commit {ts = ts} h) = at-commit ts ∙ ending-read st.Commit h
  transaction-read-at (g.rollback {ts = ts} h) = at-rollback ts ∙ ending-read st.Rollback h

  pub plain-read : Readers → {ts : List Token} {s : Statement} → IsPlain ts s → read_words text placed ts ≡ Some (s, [])
  plain-read r (g.select {ts = ts} {q = q} {sorts = sorts} h order) =
      ap (read_words text placed) (query-begins h) ∙ at-select (tail ts) ∙ ap read_select (sym (query-begins h))
      ∙ select-read r h order
  plain-read r (g.has_data {ts = ts} h) = at-select ts ∙ asked-read r h
  plain-read r (g.dml h) = at-change h ∙ change-read r h
  plain-read r (g.of_table h) = table-read-at h
  plain-read r (g.of_stream h) = stream-read-at h
  plain-read r (g.of_task h) = task-read-at h
  plain-read r (g.of_dynamic_table h) = dynamic_table-read-at r h
  plain-read r (g.of_transaction h) = transaction-read-at h
