-- The texts of the tasks and dynamic tables that acts make are understood.
--     AreUnderstood         so it is of the acts of a commit, where there is one
--     IsSpelledEvent        what CREATE TASK and CREATE DYNAMIC TABLE keep of their texts spells what the task runs,
--                           and the query
--     outcome_understood    so the acts of what an event comes to are understood
use Rattle.std.proofs.Common.{ℕ, Bool, true, false, cond, List, [], ◌∷◌, ◌++◌, map, Option, Some, None}
use Rattle.std.specs.Prelude.{option_map, unwrap_or, nat_eq, nat_lt}
use Rattle.std.specs.List.{AllByRecursion}
use Rattle.wh_ast.specs.declared.dml.Dml.{Dml}
use Rattle.wh_ast.specs.declared.statement.Statement.{Statement}
use Rattle.wh_ast.specs.declared.statement.Statement.TheVariants as st
use Rattle.wh_grammar.specs.Spelled.{Spells, Request, TooLong, Unreadable, Asked}
use Rattle.wh_meaning.specs.Bag.{Bag}
use Rattle.wh_meaning.specs.Query.{eval}
use Rattle.wh_naming.specs.Select.{BoundSelect}
use Rattle.wh_ddl_naming.specs.Meant.{first_failing}
use Rattle.wh_ddl_naming.specs.Objects.{Names}
use Rattle.wh_ddl_naming.specs.Statements as ddl
use Rattle.wh_ddl_naming.specs.Statements.{Bound}
use Rattle.wh_reply.specs.Reply.{Refusal, Reply}
use Rattle.wh_state.specs.State.{Object, Stream}
use Rattle.wh_state.specs.Task.{IsSpelled, Ending, Succeeded, Failed, Skipped, Run, TaskState, Task}
use Rattle.wh_state.specs.Objects.{stream_at, task_at}
use Rattle.wh_state.specs.Dynamic.{IsQuerySpelled}
use Rattle.wh_state.specs.Act.{Act, MakesTable, MovesOffset, PutsTask}
use Rattle.wh_state.specs.Act.{EndsTask}
use Rattle.wh_graph.specs.Graph.{is_under_way, skipped_behind, run_behind, has_failed}
use Rattle.wh_graph.specs.Root.{state_behind}
use Rattle.wh_graph.specs.Action.{Action, RunsTask, StartsRun, DoesNothing}
use Rattle.wh_state.proofs.AllLaws.{all_append}
use Rattle.wh_state.proofs.SpelledLaws.{IsUnderstood}
use Rattle.wh_machine.specs.Names.{names_in, refusal_of}
use Rattle.wh_machine.specs.Offsets.{offset_move, offset_moves, acts_of_commit}
use Rattle.wh_machine.specs.Transaction.{Staged, Transaction, start_of, edit_act, touched, acts_of, commit_refusal}
use Rattle.wh_machine.specs.Sessions.{Sessions, transaction_in}
use Rattle.wh_machine.specs.Changes as changes
use Rattle.wh_machine.specs.Changes.{Changed, Gives}
use Rattle.wh_machine.specs.Outcome.{Machine, Outcome, Refuses, Does, unless, last_test, acts_in}
use Rattle.wh_machine.specs.Queries.{listing_of}
use Rattle.wh_machine.specs.Reading.{instance_read, asked, has_data}
use Rattle.wh_machine.specs.Definitions.{drops, defines}
use Rattle.wh_machine.specs.Tables.{retention_of, create_table, drop_table}
use Rattle.wh_machine.specs.Streams.{create_stream, drop_stream}
use Rattle.wh_machine.specs.Statements.{begin, recorded, commit_of, commit, rollback_of, rollback, bound_changed}
use Rattle.wh_machine.specs.Statements.{changes_in, changes_rows, selects, carried_out, meant_in}
use Rattle.wh_machine.specs.Tasks.{live_tasks, body_of, is_same_state, put_to, resumed_state, suspended_state}
use Rattle.wh_machine.specs.Tasks.{create_task, resume_task, suspend_task, execute_task, drop_task}
use Rattle.wh_machine.specs.Ticks.{body_bound, Verdict, Fails, Holds, HoldsNot, verdict, count_acts, graph_acts}
use Rattle.wh_machine.specs.Ticks.{end_acts}
use Rattle.wh_machine.specs.Ticks.{ends_as, carried_in, runs_by, runs_task, run_task, starts_run, does_action}
use Rattle.wh_machine.specs.Ticks.{action_at}
use Rattle.wh_machine.specs.Ticks.{refreshes, ticked}
use Rattle.wh_moment.specs.Upstream.{dynamics_of}
use Rattle.wh_moment.specs.Moment.{due_table}
use Rattle.wh_machine.specs.Dynamics.{asked_refresh, query_of}
use Rattle.wh_machine.specs.Dynamics.{create_dynamic, resume_dynamic, suspend_dynamic, refresh_dynamic, set_lag}
use Rattle.wh_machine.specs.Dynamics.{drop_dynamic}
use Rattle.wh_machine.proofs.RefreshLaws.{refresh_acts}
pub use Rattle.wh_machine.proofs.UnderstoodActs.{AreUnderstood}
use Rattle.wh_machine.proofs.UnderstoodActs.{Understands, does, refuses, initialized_is, refreshed_is, alters_is}
use Rattle.wh_machine.proofs.UnderstoodActs.{scheduled_is}
use Rattle.wh_machine.specs.Step.{Event, Command, Tick, is_session, commanded, outcome_of}

-- ---- behind tests

behind : (found : Option Refusal) (o : Outcome) → Understands o → Understands (unless found o)
behind (Some why) o are = refuses
behind None o are = are

before : (found : Option Refusal) (o : Outcome) → Understands o → Understands (last_test found o)
before found (Refuses why) are = are
before found (Does reply sessions acts) are = behind found (Does reply sessions acts) are

either : (b : Bool) (o p : Outcome) → Understands o → Understands p → Understands (cond b o p)
either true o p first second = first
either false o p first second = second

definition : (m : Machine) (session : ℕ) (old : Option ℕ) (o : Outcome) → Understands o
    → Understands (defines m session old o)
unfolding defines
definition m session old o are = behind _ _ (before _ o are)

-- ---- a transaction that commits

edits_are : (entries : List (ℕ × Staged)) → AllByRecursion IsUnderstood (map edit_act entries)
edits_are [] = tt
edits_are (e ∷ es) = (tt, edits_are es)

move_is : (start id : ℕ) (found : Option Stream) → AllByRecursion IsUnderstood (offset_move start id found)
move_is start id None = tt
move_is start id (Some s) = by_test (nat_lt s.offset start)
  where
    by_test : (below : Bool) → AllByRecursion IsUnderstood (cond below (MovesOffset id start ∷ []) [])
    by_test true = (tt, tt)
    by_test false = tt

moves_are : (objects : List Object) (start : ℕ) (ids : List ℕ)
    → AllByRecursion IsUnderstood (offset_moves objects start ids)
moves_are objects start [] = tt
moves_are objects start (id ∷ ids) =
    all_append IsUnderstood (offset_move start id (stream_at objects id)) (offset_moves objects start ids)
    (move_is start id (stream_at objects id)) (moves_are objects start ids)

commit_is : (streams : List ℕ) (moves edits : List Act) → AllByRecursion IsUnderstood moves
    → AllByRecursion IsUnderstood edits → AreUnderstood (acts_of_commit streams moves edits)
commit_is [] moves [] are those = tt
commit_is [] moves (edit ∷ edits) are those = all_append IsUnderstood (edit ∷ edits) moves those are
commit_is (id ∷ ids) moves edits are those = all_append IsUnderstood edits moves those are

record_is : (m : Machine) (reply : Reply) (sessions : Sessions) (t : Transaction)
    → Understands (recorded m reply sessions t)
unfolding acts_of
record_is m reply sessions t = behind (commit_refusal m.state.objects t) _
    (does (commit_is t.streams (offset_moves m.state.objects (start_of t) t.streams) (map edit_act (touched t))
    (moves_are m.state.objects (start_of t) t.streams) (edits_are (touched t))))

commits_are : (m : Machine) (session : ℕ) (t : Option Transaction) → Understands (commit_of m session t)
commits_are m session None = refuses
commits_are m session (Some t) = record_is m _ _ t

ends_are : (m : Machine) (session : ℕ) (t : Option Transaction) → Understands (rollback_of m session t)
ends_are m session None = refuses
ends_are m session (Some t) = does tt

changes_are : (m : Machine) (session : ℕ) (t : Option Transaction) (changed : Changed)
    → Understands (changes_in m session t changed)
changes_are m session None (changes.Fails why) = refuses
changes_are m session (Some t) (changes.Fails why) = refuses
changes_are m session None (Gives id streams change e) = record_is m _ _ _
changes_are m session (Some t) (Gives id streams change e) = does tt

-- ---- what makes no commit

listing_is : (m : Machine) (b : BoundSelect) (rows : Option Bag) → Understands (listing_of m b rows)
listing_is m b None = refuses
listing_is m b (Some rows) = does tt

asked_is : (m : Machine) (session id : ℕ) (found : Option Stream) → Understands (asked m session id found)
asked_is m session id None = does tt
asked_is m session id (Some s) = behind _ _ (does tt)

-- ---- each statement

table_is : (old : Option ℕ) (more : List Act) → AllByRecursion IsUnderstood more
    → AllByRecursion IsUnderstood (drops old ++ more)
table_is None more are = are
table_is (Some id) more are = (tt, are)

put_is : (id : ℕ) (new : Task → TaskState) (found : Option Task)
    → AllByRecursion IsUnderstood (put_to id new found)
put_is id new None = tt
put_is id new (Some t) = by_test (is_same_state t.state (new t))
  where
    by_test : (same : Bool) → AllByRecursion IsUnderstood (cond same [] (PutsTask id (new t) ∷ []))
    by_test true = tt
    by_test false = (tt, tt)

-- ---- all of them

-- with what a task runs, and what a dynamic table has of its query
abbrev IsSpelledBound : Bound → Type 0
IsSpelledBound (ddl.CreateTask n) = IsSpelled (body_of n)
IsSpelledBound (ddl.CreateDynamicTable n) = IsQuerySpelled (query_of n)
IsSpelledBound _ = Unit {0}

statement_is : (m : Machine) (session : ℕ) (wrong : Option Refusal) (b : Bound) → IsSpelledBound b
    → Understands (carried_out m session wrong b)
unfolding carried_out begin commit rollback changes_rows selects has_data create_table drop_table create_stream
    drop_stream create_task resume_task suspend_task execute_task drop_task create_dynamic resume_dynamic
    suspend_dynamic refresh_dynamic set_lag drop_dynamic
statement_is m session wrong ddl.Begin spelled = behind _ _ (does tt)
statement_is m session wrong ddl.Commit spelled = commits_are m session (transaction_in m.sessions session)
statement_is m session wrong ddl.Rollback spelled = ends_are m session (transaction_in m.sessions session)
statement_is m session wrong (ddl.Change b) spelled =
    changes_are m session (transaction_in m.sessions session) (bound_changed m session b)
statement_is m session wrong (ddl.Select b) spelled =
    behind _ _ (listing_is m b (eval b.query (instance_read m session b.sources)))
statement_is m session wrong (ddl.HasData stream) spelled =
    behind _ _ (asked_is m session stream (stream_at m.state.objects stream))
statement_is m session wrong (ddl.CreateTable n) spelled = definition m session _ _ (behind _ _
    (does (table_is n.replaced (MakesTable n.name n.columns (retention_of n) ∷ []) (tt, tt))))
statement_is m session wrong (ddl.DropTable id) spelled = definition m session _ _ (behind wrong _ (does (tt, tt)))
statement_is m session wrong (ddl.CreateStream n) spelled = definition m session _ _ (behind _ _ (does (tt, tt)))
statement_is m session wrong (ddl.DropStream id) spelled = definition m session _ _ (behind wrong _ (does (tt, tt)))
statement_is m session wrong (ddl.CreateTask n) spelled = definition m session _ _ (behind _ _ (does (spelled, tt)))
statement_is m session wrong (ddl.ResumeTask id) spelled = definition m session _ _ (behind _ _
    (does (put_is id (resumed_state m.state.last id) (task_at m.state.objects id))))
statement_is m session wrong (ddl.SuspendTask id) spelled = definition m session _ _ (behind _ _
    (does (put_is id suspended_state (task_at m.state.objects id))))
statement_is m session wrong (ddl.ExecuteTask id) spelled = definition m session _ _ (behind _ _ (does (tt, tt)))
statement_is m session wrong (ddl.DropTask id) spelled = definition m session _ _ (behind _ _ (does (tt, tt)))
statement_is m session wrong (ddl.CreateDynamicTable n) spelled = definition m session _ _ (behind _ _
    (initialized_is m n (query_of n) n.initialize spelled))
statement_is m session wrong (ddl.ResumeDynamicTable id) spelled = definition m session _ _ (behind wrong _
    (alters_is m _ id _))
statement_is m session wrong (ddl.SuspendDynamicTable id) spelled = definition m session _ _ (behind wrong _
    (alters_is m _ id _))
statement_is m session wrong (ddl.RefreshDynamicTable id) spelled = definition m session _ _ (behind wrong _
    (refreshed_is m (asked_refresh m.state id) (refresh_acts m.state _ id m.state.last)))
statement_is m session wrong (ddl.SetTargetLag id lag) spelled = definition m session _ _ (behind _ _
    (alters_is m _ id _))
statement_is m session wrong (ddl.DropDynamicTable id) spelled = definition m session _ _ (behind wrong _
    (does (tt, tt)))

-- ---- what a text asks for

abbrev pub IsSpelledStatement : Statement → Type 0
IsSpelledStatement (st.CreateTask t) =
    IsSpelled (record { when = t.when; body = t.body; body_text = t.body_text })
IsSpelledStatement (st.CreateDynamicTable t) = Spells t.query_text (st.Select t.query [])
IsSpelledStatement _ = Unit {0}

abbrev pub IsSpelledRequest : Request → Type 0
IsSpelledRequest (Asked tree) = IsSpelledStatement tree
IsSpelledRequest _ = Unit {0}

abbrev pub IsSpelledEvent : Event → Type 0
IsSpelledEvent (Command reading session request) = IsSpelledRequest request
IsSpelledEvent (Tick reading) = Unit {0}

bound_spelled : (names : Names) (tree : Statement) → IsSpelledStatement tree
    → IsSpelledBound (ddl.bound names tree).value
unfolding ddl.bound
bound_spelled names (st.Select q sorts) spelled = tt
bound_spelled names (st.HasData stream) spelled = tt
bound_spelled names (st.Dml statement) spelled = tt
bound_spelled names (st.CreateTable t) spelled = tt
bound_spelled names (st.CreateStream name table is_append_only) spelled = tt
bound_spelled names (st.DropTable name) spelled = tt
bound_spelled names (st.DropStream name) spelled = tt
bound_spelled names st.Begin spelled = tt
bound_spelled names st.Commit spelled = tt
bound_spelled names st.Rollback spelled = tt
bound_spelled names (st.CreateTask t) spelled = spelled
bound_spelled names (st.ResumeTask name) spelled = tt
bound_spelled names (st.SuspendTask name) spelled = tt
bound_spelled names (st.ExecuteTask name) spelled = tt
bound_spelled names (st.DropTask name) spelled = tt
bound_spelled names (st.CreateDynamicTable t) spelled = spelled
bound_spelled names (st.ResumeDynamicTable name) spelled = tt
bound_spelled names (st.SuspendDynamicTable name) spelled = tt
bound_spelled names (st.RefreshDynamicTable name) spelled = tt
bound_spelled names (st.SetTargetLag name lag) spelled = tt
bound_spelled names (st.DropDynamicTable name) spelled = tt

request_is : (m : Machine) (session : ℕ) (request : Request) → IsSpelledRequest request
    → Understands (commanded m session request)
unfolding commanded
request_is m session TooLong spelled = refuses
request_is m session Unreadable spelled = refuses
request_is m session (Asked tree) spelled = either (is_session session) _ _
    (statement_is m session (option_map refusal_of (first_failing (meant_in m tree))) (meant_in m tree).value
    (bound_spelled (names_in m.state.objects) tree spelled)) refuses

-- ---- ticks

count_is : (root : ℕ) (old new : TaskState) → AllByRecursion IsUnderstood (count_acts root old new)
count_is root old new = by_test (nat_eq old.failures new.failures)
  where
    by_test : (same : Bool) → AllByRecursion IsUnderstood (cond same [] (PutsTask root new ∷ []))
    by_test true = tt
    by_test false = (tt, tt)

graph_is : (root : ℕ) (s : TaskState) (run : Run) → AllByRecursion IsUnderstood (graph_acts root s run)
graph_is root s run = by_test (is_under_way run)
  where
    by_test : (goes_on : Bool)
        → AllByRecursion IsUnderstood (cond goes_on [] (count_acts root s (state_behind (has_failed run) s)))
    by_test true = tt
    by_test false = count_is root s (state_behind (has_failed run) s)

skips_are : (root : ℕ) (ids : List ℕ) → AllByRecursion IsUnderstood (map (λ id. EndsTask root id Skipped) ids)
skips_are root [] = tt
skips_are root (id ∷ ids) = (tt, skips_are root ids)

end_is : (objects : List Object) (root : ℕ) (r : Task) (task : ℕ) (ending : Ending)
    → AllByRecursion IsUnderstood (end_acts objects root r task ending)
unfolding end_acts
end_is objects root r task ending =
    let skipped = skipped_behind (live_tasks objects) r.run task ending in
    let run = run_behind (live_tasks objects) r.run task ending in
    all_append IsUnderstood (EndsTask root task ending ∷ map (λ id. EndsTask root id Skipped) skipped)
    (graph_acts root r.state run) (tt, skips_are root skipped) (graph_is root r.state run)

ended_is : (m : Machine) (root : ℕ) (r : Task) (task : ℕ) (ending : Ending) (reply : Reply) (acts : List Act)
    → AllByRecursion IsUnderstood acts → Understands (ends_as m root r task ending reply acts)
ended_is m root r task ending reply acts are =
    does (all_append IsUnderstood acts (end_acts m.state.objects root r task ending) are
    (end_is m.state.objects root r task ending))

of_commit : (acts : Option (List Act)) → AreUnderstood acts → AllByRecursion IsUnderstood (unwrap_or acts [])
of_commit None are = tt
of_commit (Some acts) are = are

carried_is : (m : Machine) (root : ℕ) (r : Task) (task : ℕ) (o : Outcome) → Understands o
    → Understands (carried_in m root r task o)
carried_is m root r task (Refuses why) are = ended_is m root r task Failed _ [] tt
carried_is m root r task (Does reply sessions acts) are =
    ended_is m root r task Succeeded _ (unwrap_or acts []) (of_commit acts are.are)

run_is : (m : Machine) (root : ℕ) (r : Task) (task : ℕ) (body : Dml) (v : Verdict)
    → Understands (runs_by m root r task body v)
run_is m root r task body (Fails why) = ended_is m root r task Failed _ [] tt
run_is m root r task body HoldsNot = ended_is m root r task Skipped _ [] tt
run_is m root r task body Holds = carried_is m root r task _
    (changes_are m 0 None (bound_changed m 0 (body_bound m body)))

task_is : (m : Machine) (root task : ℕ) (r t : Option Task) → Understands (runs_task m root task r t)
task_is m root task None t = does tt
task_is m root task (Some r) None = does tt
task_is m root task (Some r) (Some t) = run_is m root r task t.runs.body (verdict m t.runs.when)

start_is : (m : Machine) (root : ℕ) (r : Option Task) → Understands (starts_run m root r)
start_is m root None = does tt
start_is m root (Some r) = does (tt, (tt, tt))

due_is : (m : Machine) (due : Option (ℕ × ℕ)) → Understands (refreshes m due)
due_is m None = does tt
due_is m (Some due) = scheduled_is m due.0 due.1

action_is : (m : Machine) (a : Action) → Understands (does_action m a)
unfolding run_task
action_is m (RunsTask root task) =
    task_is m root task (task_at m.state.objects root) (task_at m.state.objects task)
action_is m (StartsRun root) = start_is m root (task_at m.state.objects root)
action_is m DoesNothing = due_is m (due_table (dynamics_of m.state.objects) m.state.last)

tick_is : (m : Machine) → Understands (ticked m)
unfolding ticked
tick_is m = action_is m (action_at m)

pub outcome_understood : (m : Machine) (e : Event) → IsSpelledEvent e → AreUnderstood (acts_in (outcome_of m e))
outcome_understood m (Command reading session request) spelled = (request_is m session request spelled).are
outcome_understood m (Tick reading) spelled = (tick_is m).are
