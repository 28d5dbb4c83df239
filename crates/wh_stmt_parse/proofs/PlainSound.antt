-- What is read as a statement that keeps none of its text is one.
use Rattle.std.proofs.Common.{◌≡◌, ℕ, Bool, true, false, List, [], ◌∷◌, Some, subst}
use Rattle.std.specs.Prelude.{codes}
use Rattle.wh_ast.specs.declared.statement.Statement.{Statement}
use Rattle.wh_ast.specs.declared.statement.Statement.TheVariants as st
use Rattle.wh_grammar.specs.Token.{Token, Word}
use Rattle.wh_grammar.specs.Name.{IsName}
use Rattle.wh_grammar.specs.Parts.{IsLag, AreColumns, AsksForData, MayReplace, no_replace, or_replace}
use Rattle.wh_grammar.specs.Changing.{IsDml}
use Rattle.wh_grammar.specs.Spelled as g
use Rattle.wh_grammar.specs.Spelled.{IsPlain, at_table, MayEnd, most_nested}
use Rattle.wh_cursor.specs.declared.key.TokenClass.TheVariants as k
use Rattle.wh_cursor.specs.Steps.{tail, read_name, ◌>>=◌, and_then, sees_word, eat_word}
use Rattle.wh_cursor.proofs.Yields.{Yields, yields, follow, mapped, yields_law, if_test}
use Rattle.wh_cursor.proofs.Combine.{if_eaten_word, then_expect_word, then_expect_key, sees_word_some, name-yields}
use Rattle.wh_query_parse.specs.Follow.{IsQueryAt}
use Rattle.wh_query_parse.specs.Laws as query_laws
use Rattle.wh_option_parse.specs.Laws as option_laws
use Rattle.wh_dml_parse.specs.Follow.{IsDmlAt}
use Rattle.wh_dml_parse.specs.Laws as dml_laws
use Rattle.wh_stmt_parse.specs.Plain.{asks, read_has_data, read_rows, read_select, read_change, read_table}
use Rattle.wh_stmt_parse.specs.Plain.{read_replacement, read_stream, task_by, read_alter_task, read_set_lag}
use Rattle.wh_stmt_parse.specs.Plain.{refreshed_by, suspended_by, resumed_by, read_alter_table, alter_by, read_alter}
use Rattle.wh_stmt_parse.specs.Plain.{read_execute, named, read_drop, begin_by, read_begin, read_start, read_ending}
use Rattle.wh_stmt_parse.proofs.Carrying.{stand, then_is}
use Rattle.wh_stmt_parse.proofs.PartsSound.{columns-sound, retention-sound, append-sound, order-sound}

-- a statement, where nothing stands behind it
abbrev pub Whole : List Token → Statement → List Token → Type 0
Whole ts s us = us ≡ [] → IsPlain ts s

-- ---- SELECT, and changes of rows

has_data-sound : option_laws.ReadsAsked → (ts : List Token) → ts ≡ Word (codes "SELECT") ∷ tail ts
    → Yields (read_has_data ts) (Whole ts)
unfolding read_has_data
has_data-sound asked_read ts w = follow (yields_law {Q = λ name us. AsksForData (tail ts) name us}
    (λ name us h. (asked_read (tail ts) name us).0 h)) (λ name us h.
    yields (st.HasData name) us (λ end. stand (λ (ts : List Token). IsPlain ts (st.HasData name)) w
    (g.has_data (subst (λ (us : List Token). AsksForData (tail ts) name us) end h))))

rows-sound : query_laws.ReadsQueries → (ts : List Token) → Yields (read_rows ts) (Whole ts)
unfolding read_rows
rows-sound queries_read ts = follow (yields_law {Q = λ q us. IsQueryAt most_nested ts q us}
    (λ q us h. (queries_read most_nested ts q us).0 h)) (λ q us h.
    follow (order-sound us) (λ sorts vs i. yields (st.Select q sorts) vs (λ end. g.select h.query (i end))))

pub select-sound : query_laws.ReadsQueries → option_laws.ReadsAsked → (ts : List Token)
    → ts ≡ Word (codes "SELECT") ∷ tail ts → Yields (read_select ts) (Whole ts)
unfolding read_select
select-sound queries_read asked_read ts w =
    if_test (asks ts) (λ _. has_data-sound asked_read ts w) (λ _. rows-sound queries_read ts)

pub change-sound : dml_laws.ReadsDml → (ts : List Token) → Yields (read_change ts) (Whole ts)
unfolding read_change
change-sound dml_read ts = follow
    (yields_law {Q = λ x us. IsDmlAt most_nested ts x us} (λ x us h. (dml_read most_nested ts x us).0 h)) (λ x us h.
    yields (st.Dml x) us (λ end. g.dml (subst (λ (us : List Token). IsDml most_nested ts x us) end h.dml)))

-- ---- CREATE TABLE, CREATE STREAM

-- behind a front that says whether it replaces
table_by : {fs : List Token} {replace : Bool} (ts : List Token) → MayReplace fs replace (Word (codes "TABLE") ∷ ts)
    → Yields (read_table replace ts) (Whole (Word (codes "CREATE") ∷ fs))
unfolding read_table
table_by {fs} {replace} ts r = follow (name-yields ts)
    (λ name us h. then_expect_key k.LParen us _ (λ opened. follow (columns-sound (tail us)) (λ columns vs i.
    then_expect_key k.RParen vs _ (λ close. follow (retention-sound (tail vs)) (λ retention ws l. yields _ ws (λ end.
    g.of_table (g.create_table r (subst (λ (us : List Token). IsName ts name us) opened h)
    (subst (λ (vs : List Token). AreColumns (tail us) columns vs) close i) (l end))))))))

pub table-sound : (ts : List Token)
    → Yields (read_table false ts) (Whole (Word (codes "CREATE") ∷ Word (codes "TABLE") ∷ ts))
table-sound ts = table_by ts no_replace

pub replacement-sound : (ts : List Token)
    → Yields (read_replacement ts) (Whole (Word (codes "CREATE") ∷ Word (codes "OR") ∷ ts))
unfolding read_replacement
replacement-sound ts = then_expect_word (codes "REPLACE") ts _ (λ r. then_expect_word (codes "TABLE") (tail ts) _ (λ t.
    table_by (tail (tail ts)) (stand (λ (us : List Token). MayReplace (Word (codes "OR") ∷ us) true
    (Word (codes "TABLE") ∷ tail (tail ts))) (then_is r t) or_replace)))

pub stream-sound : (ts : List Token)
    → Yields (read_stream ts) (Whole (Word (codes "CREATE") ∷ Word (codes "STREAM") ∷ ts))
unfolding read_stream
stream-sound ts = follow (name-yields ts)
    (λ name us h. then_expect_word (codes "ON") us _ (λ on. then_expect_word (codes "TABLE") (tail us) _ (λ t.
    follow (name-yields (tail (tail us))) (λ table vs i. follow (append-sound vs)
    (λ append_only ws l. yields (st.CreateStream name table append_only) ws (λ end.
    g.of_stream (g.create_stream (subst (λ (us : List Token). IsName ts name us) (then_is on t) h) i (l end))))))))

-- ---- ALTER, EXECUTE, DROP

-- a name, and one word at the end
last_word : {ts us : List Token} {name w : List ℕ} → IsName ts name us → us ≡ Word w ∷ tail us → tail us ≡ []
    → IsName ts name (Word w ∷ [])
last_word {ts} {us} {name} h w end = subst (λ (us : List Token). IsName ts name us) (then_is w end) h

task-sound : (ts : List Token) → Yields (read_alter_task ts) (Whole (Word (codes "ALTER") ∷ Word (codes "TASK") ∷ ts))
unfolding read_alter_task
task-sound ts = follow (name-yields ts) (λ name us h. if_eaten_word (codes "RESUME") us (task_by name)
    (λ w. yields (st.ResumeTask name) (tail us) (λ end. g.of_task (g.resume_task (last_word h w end))))
    (λ _. then_expect_word (codes "SUSPEND") us _
    (λ w. yields (st.SuspendTask name) (tail us) (λ end. g.of_task (g.suspend_task (last_word h w end))))))

abbrev Altered : List Token → List Token
Altered ts = Word (codes "ALTER") ∷ at_table ts

set_lag-sound : option_laws.ReadsLags → (ts us : List Token) (name : List ℕ) → IsName ts name us
    → Yields (read_set_lag name us) (Whole (Altered ts))
unfolding read_set_lag
set_lag-sound lags_read ts us name h =
    then_expect_word (codes "SET") us _ (λ s. then_expect_word (codes "TARGET_LAG") (tail us) _ (λ t.
    then_expect_key k.Equal (tail (tail us)) _ (λ e.
    follow (yields_law {Q = λ l vs. IsLag (tail (tail (tail us))) l vs}
    (λ l vs i. (lags_read (tail (tail (tail us))) l vs).0 i)) (λ l vs i.
    yields (st.SetTargetLag name l) vs
    (λ end. g.of_dynamic_table (g.set_lag (subst (λ (us : List Token). IsName ts name us) (then_is s (then_is t e)) h)
    (subst (λ (vs : List Token). IsLag (tail (tail (tail us))) l vs) end i)))))))

altered-sound : option_laws.ReadsLags → (ts : List Token)
    → Yields (and_then (read_name ts) (λ name. eat_word (codes "RESUME") >>= resumed_by name)) (Whole (Altered ts))
altered-sound lags_read ts = follow (name-yields ts) (λ name us h. if_eaten_word (codes "RESUME") us (resumed_by name)
    (λ w. yields (st.ResumeDynamicTable name) (tail us)
    (λ end. g.of_dynamic_table (g.resume_table (last_word h w end))))
    (λ _. if_eaten_word (codes "SUSPEND") us (suspended_by name)
    (λ w. yields (st.SuspendDynamicTable name) (tail us)
    (λ end. g.of_dynamic_table (g.suspend_table (last_word h w end))))
    (λ _. if_eaten_word (codes "REFRESH") us (refreshed_by name)
    (λ w. yields (st.RefreshDynamicTable name) (tail us)
    (λ end. g.of_dynamic_table (g.refresh_table (last_word h w end))))
    (λ _. set_lag-sound lags_read ts us name h))))

alter_table-sound : option_laws.ReadsLags → (ts : List Token)
    → Yields (read_alter_table ts) (Whole (Word (codes "ALTER") ∷ ts))
unfolding read_alter_table
alter_table-sound lags_read ts =
    then_expect_word (codes "DYNAMIC") ts _ (λ d. then_expect_word (codes "TABLE") (tail ts) _ (λ t.
    mapped (altered-sound lags_read (tail (tail ts)))
    (λ s us h end. stand (λ (ts : List Token). IsPlain (Word (codes "ALTER") ∷ ts) s) (then_is d t) (h end))))

pub alter-sound : option_laws.ReadsLags → (ts : List Token) → Yields (read_alter ts) (Whole (Word (codes "ALTER") ∷ ts))
unfolding read_alter
alter-sound lags_read ts = if_eaten_word (codes "TASK") ts alter_by
    (λ w. mapped (task-sound (tail ts))
    (λ s us h end. stand (λ (ts : List Token). IsPlain (Word (codes "ALTER") ∷ ts) s) w (h end)))
    (λ _. alter_table-sound lags_read ts)

-- a name to the end
named-sound : (made : List ℕ → Statement) (fs ts : List Token)
    → ((name : List ℕ) → IsName ts name [] → IsPlain fs (made name))
    → Yields (named made ts) (Whole fs)
named-sound made fs ts k = follow (name-yields ts)
    (λ name us h. yields (made name) us (λ end. k name (subst (λ (us : List Token). IsName ts name us) end h)))

pub execute-sound : (ts : List Token) → Yields (read_execute ts) (Whole (Word (codes "EXECUTE") ∷ ts))
unfolding read_execute
execute-sound ts = then_expect_word (codes "TASK") ts _
    (λ w. named-sound (λ name. st.ExecuteTask name) (Word (codes "EXECUTE") ∷ ts) (tail ts)
    (λ name h. stand (λ (ts : List Token). IsPlain (Word (codes "EXECUTE") ∷ ts) (st.ExecuteTask name))
    w (g.of_task (g.execute_task h))))

dropped : (w : List ℕ) (made : List ℕ → Statement) (ts : List Token) → sees_word w ts ≡ true
    → ((name : List ℕ) (us : List Token) → IsName us name [] → IsPlain (Word (codes "DROP") ∷ Word w ∷ us) (made name))
    → Yields (named made (tail ts)) (Whole (Word (codes "DROP") ∷ ts))
dropped w made ts seen k = named-sound made (Word (codes "DROP") ∷ ts) (tail ts)
    (λ name h. stand (λ (ts : List Token). IsPlain (Word (codes "DROP") ∷ ts) (made name))
    (sees_word_some w ts seen) (k name (tail ts) h))

pub drop-sound : (ts : List Token) → Yields (read_drop ts) (Whole (Word (codes "DROP") ∷ ts))
unfolding read_drop
drop-sound ts =
    if_test (sees_word (codes "TABLE") ts)
    (λ r. dropped (codes "TABLE") (λ name. st.DropTable name) ts r (λ name us h. g.of_table (g.drop_table h))) (λ _.
    if_test (sees_word (codes "STREAM") ts)
    (λ r. dropped (codes "STREAM") (λ name. st.DropStream name) ts r (λ name us h. g.of_stream (g.drop_stream h))) (λ _.
    if_test (sees_word (codes "TASK") ts)
    (λ r. dropped (codes "TASK") (λ name. st.DropTask name) ts r (λ name us h. g.of_task (g.drop_task h))) (λ _.
    then_expect_word (codes "DYNAMIC") ts _ (λ d. then_expect_word (codes "TABLE") (tail ts) _ (λ t.
    named-sound (λ name. st.DropDynamicTable name) (Word (codes "DROP") ∷ ts) (tail (tail ts))
    (λ name h. stand (λ (ts : List Token). IsPlain (Word (codes "DROP") ∷ ts) (st.DropDynamicTable name)) (then_is d t)
    (g.of_dynamic_table (g.drop_dynamic_table h))))))))

-- ---- transactions

pub begin-sound : (ts : List Token) → Yields (read_begin ts) (Whole (Word (codes "BEGIN") ∷ ts))
unfolding read_begin
begin-sound ts = if_eaten_word (codes "TRANSACTION") ts begin_by
    (λ w. yields st.Begin (tail ts) (λ end. stand (λ (ts : List Token). IsPlain (Word (codes "BEGIN") ∷ ts) st.Begin)
    (then_is w end) (g.of_transaction g.begin_transaction)))
    (λ _. if_eaten_word (codes "WORK") ts (λ (_ : Bool). λ us. Some (st.Begin, us))
    (λ w. yields st.Begin (tail ts)
    (λ end. stand (λ (ts : List Token). IsPlain (Word (codes "BEGIN") ∷ ts) st.Begin) (then_is w end)
    (g.of_transaction g.begin_work)))
    (λ _. yields st.Begin ts
    (λ end. stand (λ (ts : List Token). IsPlain (Word (codes "BEGIN") ∷ ts) st.Begin) end (g.of_transaction g.begin))))

pub start-sound : (ts : List Token) → Yields (read_start ts) (Whole (Word (codes "START") ∷ ts))
unfolding read_start
start-sound ts = then_expect_word (codes "TRANSACTION") ts _ (λ w.
    yields st.Begin (tail ts) (λ end. stand (λ (ts : List Token). IsPlain (Word (codes "START") ∷ ts) st.Begin)
    (then_is w end) (g.of_transaction g.start_transaction)))

pub ending-sound : (made : Statement) (fs : List Token → List Token)
    → ((ts : List Token) → MayEnd (codes "WORK") ts → IsPlain (fs ts) made) → (ts : List Token)
    → Yields (read_ending made ts) (Whole (fs ts))
unfolding read_ending
ending-sound made fs k ts = if_eaten_word (codes "WORK") ts (λ (_ : Bool). λ us. Some (made, us))
    (λ w. yields made (tail ts) (λ end. k ts (stand (MayEnd (codes "WORK")) (then_is w end) g.with)))
    (λ _. yields made ts (λ end. k ts (stand (MayEnd (codes "WORK")) end g.without)))
