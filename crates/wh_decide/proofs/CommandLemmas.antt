-- What a command comes to, by its statement.
--     command_long, command_unreadable, command_of_none     a command that is no statement of a session
--     command_bound                                         a statement that nothing is found wrong with
--     command_failing                                       one that fails a test of names
use Rattle.std.proofs.Common.{◌≡◌, ℕ, Option, Some, None, option_map, true, false, refl, sym, ap, ◌∙◌}
use Rattle.std.specs.Prelude.{unwrap_or}
use Rattle.wh_value.specs.declared.limit.Limit.TheVariants as limits
use Rattle.wh_ast.specs.declared.statement.Statement.{Statement}
use Rattle.wh_ast.specs.declared.statement.Statement.TheVariants as st
use Rattle.wh_ast.specs.declared.statement.Lag.{Lag}
use Rattle.wh_grammar.specs.Spelled.{TooLong, Unreadable, Asked}
use Rattle.wh_naming.specs.Findings as naming
use Rattle.wh_naming.specs.Findings.{Failing, nothing_found}
use Rattle.wh_naming.specs.Select.{BoundSelect, bound_select}
use Rattle.wh_naming.specs.Changes.{BoundChange, bound_change}
use Rattle.wh_ddl_naming.specs.Meant.{first_failing}
use Rattle.wh_ddl_naming.specs.Objects.{Names}
use Rattle.wh_ddl_naming.specs.Tables.{NewTable}
use Rattle.wh_ddl_naming.specs.Streams.{NewStream}
use Rattle.wh_ddl_naming.specs.Tasks.{NewTask}
use Rattle.wh_ddl_naming.specs.DynamicTables.{NewDynamicTable}
use Rattle.wh_ddl_naming.specs.Statements.{bound}
use Rattle.wh_ddl_bind.specs.View.{bound_of}
use Rattle.wh_ddl_bind.specs.Binds.{IsBound}
use Rattle.wh_ddl_bind.specs.declared.bound.Bound.{Bound}
use Rattle.wh_reply.specs.Reply.{Refusal, OverLimit, SyntaxError, NoSuchSession, DdlInTransaction, Locked}
use Rattle.wh_machine.specs.Names.{refusal_of}
use Rattle.wh_machine.specs.Sessions.{number_in}
use Rattle.wh_machine.specs.Outcome.{Machine, Outcome, Refuses, unless, last_test}
use Rattle.wh_machine.specs.Reading.{has_data}
use Rattle.wh_machine.specs.Definitions.{holder_of, defines}
use Rattle.wh_machine.specs.Tables.{table_refusal, create_table, drop_table}
use Rattle.wh_machine.specs.Streams.{stream_refusal, create_stream, drop_stream}
use Rattle.wh_machine.specs.Tasks.{task_refusal, create_task, resume_task, suspend_task, execute_task, drop_task}
use Rattle.wh_machine.specs.Dynamics.{dynamic_refusal, create_dynamic, resume_dynamic, suspend_dynamic, refresh_dynamic}
use Rattle.wh_machine.specs.Dynamics.{lag_refusal, set_lag, drop_dynamic}
use Rattle.wh_machine.specs.Statements.{selects, changes_rows, carried_out, carried_out_as, meant_in}
use Rattle.wh_machine.specs.Step.{commanded, is_session}
use Rattle.wh_decide.specs.Definitions.{in_transaction, earlier_refusal}

-- ---- no statement of a session

pub command_long : (m : Machine) (session : ℕ) → commanded m session TooLong ≡ Refuses (OverLimit limits.Statement)
unfolding commanded
command_long m session = refl

pub command_unreadable : (m : Machine) (session : ℕ) → commanded m session Unreadable ≡ Refuses SyntaxError
unfolding commanded
command_unreadable m session = refl

pub command_of_none : (m : Machine) (session : ℕ) (tree : Statement) → is_session session ≡ false
    → commanded m session (Asked tree) ≡ Refuses (NoSuchSession session)
unfolding commanded
command_of_none m session tree none = rw none refl

command_carried : (m : Machine) (session : ℕ) (tree : Statement) → is_session session ≡ true
    → commanded m session (Asked tree) ≡ carried_out_as m session (meant_in m tree)
unfolding commanded
command_carried m session tree there = rw there refl

-- by what it may name
command_meant : (m : Machine) (session : ℕ) (tree : Statement) (names : Names) → is_session session ≡ true
    → bound names tree ≡ meant_in m tree
    → commanded m session (Asked tree) ≡ carried_out_as m session (bound names tree)
command_meant m session tree names there same =
    command_carried m session tree there ∙ ap (carried_out_as m session) (sym same)

-- ---- nothing is found wrong

pub command_bound : (m : Machine) (session : ℕ) (tree : Statement) (names : Names) (b : Bound)
    → is_session session ≡ true → bound names tree ≡ meant_in m tree → IsBound b (bound names tree)
    → carried_out m session None (bound_of b) ≡ commanded m session (Asked tree)
command_bound m session tree names b there same h =
    sym (command_meant m session tree names there same
    ∙ (λ i. carried_out m session (option_map refusal_of (h.nothing_found i)) (sym h.bound i)))

-- ---- a test of names fails

-- CREATE, ALTER, EXECUTE and DROP
defines_failing : (m : Machine) (session : ℕ) (old : Option ℕ) (o : Outcome) (why : Refusal) → o ≡ Refuses why
    → defines m session old o ≡ Refuses (unwrap_or (in_transaction m session) why)
unfolding defines
defines_failing m session old o why is =
    ap (λ (found : Outcome). unless (option_map DdlInTransaction (number_in m.sessions session))
    (last_test (option_map Locked (holder_of m.sessions old)) found)) is
    ∙ by_number (option_map DdlInTransaction (number_in m.sessions session)) why
  where
    by_number : (first : Option Refusal) (why : Refusal) → unless first (Refuses why) ≡ Refuses (unwrap_or first why)
    by_number None why = refl
    by_number (Some other) why = refl

table_failing : (m : Machine) (why : Refusal) (n : NewTable) → create_table m (Some why) n ≡ Refuses why
unfolding create_table table_refusal
table_failing m why n = refl

drop_table_failing : (m : Machine) (why : Refusal) (id : ℕ) → drop_table m (Some why) id ≡ Refuses why
unfolding drop_table
drop_table_failing m why id = refl

stream_failing : (m : Machine) (why : Refusal) (n : NewStream) → create_stream m (Some why) n ≡ Refuses why
unfolding create_stream stream_refusal
stream_failing m why n = refl

drop_stream_failing : (m : Machine) (why : Refusal) (id : ℕ) → drop_stream m (Some why) id ≡ Refuses why
unfolding drop_stream
drop_stream_failing m why id = refl

task_failing : (m : Machine) (why : Refusal) (n : NewTask) → create_task m (Some why) n ≡ Refuses why
unfolding create_task task_refusal
task_failing m why n = refl

resume_failing : (m : Machine) (why : Refusal) (id : ℕ) → resume_task m (Some why) id ≡ Refuses why
unfolding resume_task
resume_failing m why id = refl

suspend_failing : (m : Machine) (why : Refusal) (id : ℕ) → suspend_task m (Some why) id ≡ Refuses why
unfolding suspend_task
suspend_failing m why id = refl

execute_failing : (m : Machine) (why : Refusal) (root : ℕ) → execute_task m (Some why) root ≡ Refuses why
unfolding execute_task
execute_failing m why root = refl

drop_task_failing : (m : Machine) (why : Refusal) (id : ℕ) → drop_task m (Some why) id ≡ Refuses why
unfolding drop_task
drop_task_failing m why id = refl

dynamic_failing : (m : Machine) (why : Refusal) (n : NewDynamicTable) → create_dynamic m (Some why) n ≡ Refuses why
unfolding create_dynamic dynamic_refusal
dynamic_failing m why n = refl

resume_dynamic_failing : (m : Machine) (why : Refusal) (id : ℕ) → resume_dynamic m (Some why) id ≡ Refuses why
unfolding resume_dynamic
resume_dynamic_failing m why id = refl

suspend_dynamic_failing : (m : Machine) (why : Refusal) (id : ℕ) → suspend_dynamic m (Some why) id ≡ Refuses why
unfolding suspend_dynamic
suspend_dynamic_failing m why id = refl

refresh_failing : (m : Machine) (why : Refusal) (id : ℕ) → refresh_dynamic m (Some why) id ≡ Refuses why
unfolding refresh_dynamic
refresh_failing m why id = refl

lag_failing : (m : Machine) (why : Refusal) (id : ℕ) (lag : Lag) → set_lag m (Some why) id lag ≡ Refuses why
unfolding set_lag lag_refusal
lag_failing m why id lag = refl

drop_dynamic_failing : (m : Machine) (why : Refusal) (id : ℕ) → drop_dynamic m (Some why) id ≡ Refuses why
unfolding drop_dynamic
drop_dynamic_failing m why id = refl

has_data_failing : (m : Machine) (session : ℕ) (why : Refusal) (id : ℕ) → has_data m session (Some why) id ≡ Refuses why
unfolding has_data
has_data_failing m session why id = refl

-- of a SELECT and a change it is the first of their own tests
select_failing : (m : Machine) (session : ℕ) (b : BoundSelect) (f : Failing) → naming.first_failing b.findings ≡ Some f
    → selects m session b ≡ Refuses (refusal_of f)
unfolding selects
select_failing m session b f is = rw is refl

change_failing : (m : Machine) (session : ℕ) (b : BoundChange) (f : Failing) → naming.first_failing b.findings ≡ Some f
    → changes_rows m session b ≡ Refuses (refusal_of f)
unfolding changes_rows
change_failing m session b f is = rw is refl

nothing_fails : (f : Failing) → naming.first_failing nothing_found ≡ Some f → ⊥
unfolding naming.first_failing
nothing_fails f is = cc

failing : (m : Machine) (session : ℕ) (names : Names) (f : Failing) (tree : Statement)
    → first_failing (bound names tree) ≡ Some f
    → carried_out m session (Some (refusal_of f)) (bound names tree).value
    ≡ Refuses (unwrap_or (earlier_refusal m session tree) (refusal_of f))
unfolding bound carried_out
failing m session names f (st.Select query sorts) is =
    select_failing m session (bound_select names.objects query sorts) f is
failing m session names f (st.HasData stream) is = has_data_failing m session (refusal_of f) _
failing m session names f (st.Dml statement) is =
    change_failing m session (bound_change names.objects statement) f is
failing m session names f (st.CreateTable t) is =
    defines_failing m session _ _ (refusal_of f) (table_failing m (refusal_of f) _)
failing m session names f (st.DropTable table) is =
    defines_failing m session _ _ (refusal_of f) (drop_table_failing m (refusal_of f) _)
failing m session names f (st.CreateStream name table is_append_only) is =
    defines_failing m session _ _ (refusal_of f) (stream_failing m (refusal_of f) _)
failing m session names f (st.DropStream stream) is =
    defines_failing m session _ _ (refusal_of f) (drop_stream_failing m (refusal_of f) _)
failing m session names f (st.CreateTask t) is =
    defines_failing m session _ _ (refusal_of f) (task_failing m (refusal_of f) _)
failing m session names f (st.ResumeTask task) is =
    defines_failing m session _ _ (refusal_of f) (resume_failing m (refusal_of f) _)
failing m session names f (st.SuspendTask task) is =
    defines_failing m session _ _ (refusal_of f) (suspend_failing m (refusal_of f) _)
failing m session names f (st.ExecuteTask root) is =
    defines_failing m session _ _ (refusal_of f) (execute_failing m (refusal_of f) _)
failing m session names f (st.DropTask task) is =
    defines_failing m session _ _ (refusal_of f) (drop_task_failing m (refusal_of f) _)
failing m session names f st.Begin is = absurd (nothing_fails f is)
failing m session names f st.Commit is = absurd (nothing_fails f is)
failing m session names f st.Rollback is = absurd (nothing_fails f is)
failing m session names f (st.CreateDynamicTable t) is =
    defines_failing m session _ _ (refusal_of f) (dynamic_failing m (refusal_of f) _)
failing m session names f (st.ResumeDynamicTable table) is =
    defines_failing m session _ _ (refusal_of f) (resume_dynamic_failing m (refusal_of f) _)
failing m session names f (st.SuspendDynamicTable table) is =
    defines_failing m session _ _ (refusal_of f) (suspend_dynamic_failing m (refusal_of f) _)
failing m session names f (st.RefreshDynamicTable table) is =
    defines_failing m session _ _ (refusal_of f) (refresh_failing m (refusal_of f) _)
failing m session names f (st.SetTargetLag table lag) is =
    defines_failing m session _ _ (refusal_of f) (lag_failing m (refusal_of f) _ _)
failing m session names f (st.DropDynamicTable table) is =
    defines_failing m session _ _ (refusal_of f) (drop_dynamic_failing m (refusal_of f) _)

pub command_failing : (m : Machine) (session : ℕ) (tree : Statement) (names : Names) (f : Failing)
    → is_session session ≡ true → bound names tree ≡ meant_in m tree → first_failing (bound names tree) ≡ Some f
    → commanded m session (Asked tree) ≡ Refuses (unwrap_or (earlier_refusal m session tree) (refusal_of f))
command_failing m session tree names f there same is =
    command_meant m session tree names there same
    ∙ ap (λ (found : Option Failing). carried_out m session (option_map refusal_of found) (bound names tree).value) is
    ∙ failing m session names f tree is
