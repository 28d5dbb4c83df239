-- Every event keeps a sound machine sound.
--     statement_keeps     a statement of a session
--     tick_keeps          a tick
--     event_keeps         an event
use Rattle.std.proofs.Common.{◌≡◌, ℕ, suc, false, List, [], ◌∷◌, ◌++◌, Option, Some, None}
use Rattle.std.proofs.Common.{refl, subst, arith}
use Rattle.std.specs.Prelude.{unwrap_or, slice_set}
use Rattle.std.specs.List.{AllByRecursion}
use Rattle.wh_value.specs.declared.limit.Limit.TheVariants as limits
use Rattle.wh_ast.specs.declared.statement.Statement as trees
use Rattle.wh_ast.specs.declared.statement.Statement.TheVariants as st
use Rattle.wh_ast.specs.declared.dml.Dml.{Dml}
use Rattle.wh_grammar.specs.Spelled.{Request, TooLong, Unreadable, Asked}
use Rattle.wh_meaning.specs.Bag.{Bag}
use Rattle.wh_meaning.specs.Listing.{listed}
use Rattle.wh_naming.specs.Scope.{TaskObject}
use Rattle.wh_naming.specs.Select.{BoundSelect, bound_select}
use Rattle.wh_ddl_naming.specs.Objects.{object_of}
use Rattle.wh_ddl_naming.specs.Tables.{NewTable, bound_table}
use Rattle.wh_ddl_naming.specs.Statements as ddl
use Rattle.wh_reply.specs.Reply.{Refusal, Reply, NumberOutOfRange, NoTransaction, SyntaxError, NoSuchSession, OverLimit}
use Rattle.wh_reply.specs.Reply.{Begun, RolledBack, Listing, HasData, CreatedTable}
use Rattle.wh_reply.specs.Reply.{Started, Idle}
use Rattle.wh_state.specs.State.{Stream}
use Rattle.wh_state.specs.Task.{Task, Succeeded, Failed, Skipped}
use Rattle.wh_state.specs.Objects.{name_at, table_at, task_at}
use Rattle.wh_state.specs.Act.{Act, MakesTable, DropsObject}
use Rattle.wh_state.proofs.AllLaws.{all_with}
use Rattle.wh_state.proofs.PlainActs.{ArePlain, no_more_edit}
use Rattle.wh_net.specs.Stream.{rows_shown, has_rows}
use Rattle.wh_graph.specs.Action.{Action, RunsTask, StartsRun, DoesNothing}
use Rattle.wh_moment.specs.Upstream.{dynamics_of}
use Rattle.wh_moment.specs.Moment.{due_table}
use Rattle.wh_machine.specs.Changes.{Changed, Fails, Gives, reply_to}
use Rattle.wh_machine.specs.Transaction.{Transaction, begun, staged, staged_in_state, next_row_of, acts_of}
use Rattle.wh_machine.specs.Transaction.{commit_refusal}
use Rattle.wh_machine.specs.Sessions.{transaction_in, with_begun, with_ended}
use Rattle.wh_machine.specs.Names.{names_in}
use Rattle.wh_machine.specs.Outcome.{Machine, Outcome, Does, commits, unless}
use Rattle.wh_machine.specs.Queries.{listing_of}
use Rattle.wh_machine.specs.Reading.{reading_refusal, start_in, asked, has_data}
use Rattle.wh_machine.specs.Definitions.{drops, defines}
use Rattle.wh_machine.specs.Tables.{retention_of, table_made, create_table, drop_table}
use Rattle.wh_machine.specs.Streams.{create_stream, drop_stream}
use Rattle.wh_machine.specs.Tasks.{resumed_state, suspended_state, create_task, resume_task}
use Rattle.wh_machine.specs.Tasks.{suspend_task, execute_task, drop_task}
use Rattle.wh_machine.specs.Dynamics.{drop_dynamic, suspend_dynamic, resume_dynamic, set_lag, refresh_dynamic}
use Rattle.wh_machine.specs.Statements.{begin, commit, rollback, commit_of, rollback_of, commit_reply}
use Rattle.wh_machine.specs.Statements.{changes_in, changes_rows, selects, carried_out, carried_out_as, meant_in}
use Rattle.wh_machine.specs.Ticks as ticks
use Rattle.wh_machine.specs.Ticks.{body_bound, Verdict, Holds, HoldsNot, verdict, fails_by, carried_in, runs_by}
use Rattle.wh_machine.specs.Ticks.{runs_task}
use Rattle.wh_machine.specs.Ticks.{run_task, scheduled_acts, starts_run, refreshes, does_action, action_at, ticked}
use Rattle.wh_machine.specs.Step.{Event, Command, Tick, is_session, commanded, outcome_of}
use Rattle.wh_machine.specs.Sound.{IsBegun, ChangesTables, AllChangeTables}
use Rattle.wh_machine.proofs.OutcomeLaws.{begun_in}
use Rattle.wh_machine.proofs.TaskActs.{IsOfTasks, put_is}
use Rattle.wh_machine.proofs.KeepingLaws.{IsReady, IsKeeping, refused, does, tested, tested_last, either, answered}
use Rattle.wh_machine.proofs.TableNamed.{ChangesTable, table_changed}
use Rattle.wh_machine.proofs.PlainLaws.{still_commits, tasks_still, PlainActs, acts_plain, recorded_keeps, begun_tables}
use Rattle.wh_machine.proofs.PlainLaws.{staged_tables, tables_of, changed_keeps, ends_keep}
use Rattle.wh_machine.proofs.DynamicKeeps.{create_keeps, altered_keeps, asked_keeps, due_keeps}

-- ---- objects that are made and dropped

created : (m : Machine) (n : NewTable) → IsReady m → IsKeeping m (commits m (CreatedTable n.name) (table_made n))
created m n ready = by_replaced n.replaced
  where
    made : Act
    made = MakesTable n.name n.columns (retention_of n)

    by_replaced : (replaced : Option ℕ) → IsKeeping m (commits m (CreatedTable n.name) (drops replaced ++ made ∷ []))
    by_replaced None = still_commits m (CreatedTable n.name) (made ∷ []) ready (tt, tt)
    by_replaced (Some id) = still_commits m (CreatedTable n.name) (DropsObject id ∷ made ∷ []) ready (tt, (tt, tt))

dropped : (m : Machine) (reply : Reply) (id : ℕ) → IsReady m → IsKeeping m (commits m reply (DropsObject id ∷ []))
dropped m reply id ready = still_commits m reply (DropsObject id ∷ []) ready (tt, tt)

tasked : (m : Machine) (reply : Reply) (acts : List Act) → IsReady m → AllByRecursion IsOfTasks acts
    → IsKeeping m (commits m reply acts)
tasked m reply acts ready are = still_commits m reply acts ready (tasks_still m.state.last acts are)

definition : (m : Machine) (session : ℕ) (old : Option ℕ) (o : Outcome) → IsReady m → IsKeeping m o
    → IsKeeping m (defines m session old o)
unfolding defines
definition m session old o ready keeps = tested m _ _ ready (tested_last m _ _ ready keeps)

-- ---- queries

listed_rows : (m : Machine) (b : BoundSelect) (found : Option Bag) → IsReady m → IsKeeping m (listing_of m b found)
listed_rows m b None ready = refused m NumberOutOfRange ready
listed_rows m b (Some rows) ready = answered m (Listing b.names (listed b.keys rows)) ready

asked_keeping : (m : Machine) (session id : ℕ) (found : Option Stream) → IsReady m
    → IsKeeping m (asked m session id found)
asked_keeping m session id None ready = answered m (HasData false) ready
asked_keeping m session id (Some s) ready =
    tested m (reading_refusal m.state.objects m.state.last (id ∷ [])) _ ready
    (answered m (HasData (has_rows (rows_shown m.state.objects s (start_in m session)))) ready)

-- ---- transactions

-- one session's other transaction
put_tables : (m : Machine) (session : ℕ) (found : Option Transaction) → IsReady m → ChangesTables m.state.objects found
    → AllChangeTables m.state.objects (slice_set m.sessions session found)
put_tables m session found ready tables =
    all_with (ChangesTables m.state.objects) m.sessions (suc session) found ready.tables tables

begun_keeps : (m : Machine) (session : ℕ) → IsReady m
    → IsKeeping m (Does (Begun m.state.last) (with_begun m.sessions session m.state.last) None)
begun_keeps m session ready = does m (Begun m.state.last) _ None tt
    (put_tables m session _ ready (begun_tables m.state.objects m.state.last))

commit_keeps : (m : Machine) (session : ℕ) (t : Option Transaction) → transaction_in m.sessions session ≡ t → IsReady m
    → IsKeeping m (commit_of m session t)
commit_keeps m session None is ready = refused m NoTransaction ready
commit_keeps m session (Some t) is ready =
    recorded_keeps m (commit_reply m.state.last (acts_of m.state.objects t)) (with_ended m.sessions session) t ready
    (subst (IsBegun m.state.last) is (begun_in m.state.last m.sessions session ready.begun))
    (subst (ChangesTables m.state.objects) is (tables_of m.state.objects m.sessions session ready.tables))
    (put_tables m session None ready tt)

rollback_keeps : (m : Machine) (session : ℕ) (t : Option Transaction) → IsReady m
    → IsKeeping m (rollback_of m session t)
rollback_keeps m session None ready = refused m NoTransaction ready
rollback_keeps m session (Some t) ready = does m RolledBack _ None tt (put_tables m session None ready tt)

-- ---- all of them

statement_keeps : (m : Machine) (session : ℕ) (x : trees.Statement) → IsReady m
    → IsKeeping m (carried_out_as m session (meant_in m x))
unfolding carried_out ddl.bound begin commit rollback changes_rows selects has_data create_table drop_table
    create_stream drop_stream create_task resume_task suspend_task execute_task drop_task resume_dynamic suspend_dynamic
    refresh_dynamic set_lag drop_dynamic
statement_keeps m session st.Begin ready = tested m _ _ ready (begun_keeps m session ready)
statement_keeps m session st.Commit ready = commit_keeps m session (transaction_in m.sessions session) refl ready
statement_keeps m session st.Rollback ready = rollback_keeps m session (transaction_in m.sessions session) ready
statement_keeps m session (st.Dml x) ready =
    changed_keeps m session (transaction_in m.sessions session) refl _ ready (table_changed m session x)
statement_keeps m session (st.Select q sorts) ready =
    tested m _ _ ready (listed_rows m (bound_select (names_in m.state.objects).objects q sorts) _ ready)
statement_keeps m session (st.HasData name) ready = tested m _ _ ready (asked_keeping m session _ _ ready)
statement_keeps m session (st.CreateTable t) ready =
    definition m session _ _ ready (tested m _ _ ready
    (created m (bound_table (names_in m.state.objects) t).value ready))
statement_keeps m session (st.DropTable name) ready =
    definition m session _ _ ready (tested m _ _ ready (dropped m _ _ ready))
statement_keeps m session (st.CreateStream name source is_append_only) ready =
    definition m session _ _ ready (tested m _ _ ready (still_commits m _ _ ready (tt, tt)))
statement_keeps m session (st.DropStream name) ready =
    definition m session _ _ ready (tested m _ _ ready (dropped m _ _ ready))
statement_keeps m session (st.CreateTask t) ready =
    definition m session _ _ ready (tested m _ _ ready (still_commits m _ _ ready (tt, tt)))
statement_keeps m session (st.ResumeTask name) ready =
    let id : ℕ = (object_of TaskObject (names_in m.state.objects) name).value in
    definition m session _ _ ready (tested m _ _ ready (tasked m _ _ ready
    (put_is id (resumed_state m.state.last id) (task_at m.state.objects id))))
statement_keeps m session (st.SuspendTask name) ready =
    let id : ℕ = (object_of TaskObject (names_in m.state.objects) name).value in
    definition m session _ _ ready (tested m _ _ ready (tasked m _ _ ready
    (put_is id suspended_state (task_at m.state.objects id))))
statement_keeps m session (st.ExecuteTask name) ready =
    definition m session _ _ ready (tested m _ _ ready (tasked m _ _ ready (tt, tt)))
statement_keeps m session (st.DropTask name) ready =
    definition m session _ _ ready (tested m _ _ ready (dropped m _ _ ready))
statement_keeps m session (st.CreateDynamicTable t) ready =
    definition m session _ _ ready (create_keeps m t _ ready)
statement_keeps m session (st.ResumeDynamicTable name) ready =
    definition m session _ _ ready (tested m _ _ ready (altered_keeps m _ _ _ (λ s. (refl, omega arith)) ready))
statement_keeps m session (st.SuspendDynamicTable name) ready =
    definition m session _ _ ready (tested m _ _ ready (altered_keeps m _ _ _ (λ s. (refl, omega arith)) ready))
statement_keeps m session (st.RefreshDynamicTable name) ready =
    definition m session _ _ ready (tested m _ _ ready (asked_keeps m _ ready))
statement_keeps m session (st.SetTargetLag name lag) ready =
    definition m session _ _ ready (tested m _ _ ready (altered_keeps m _ _ _ (λ s. (refl, omega arith)) ready))
statement_keeps m session (st.DropDynamicTable name) ready =
    definition m session _ _ ready (tested m _ _ ready (dropped m _ _ ready))

-- ---- ticks

failed_keeps : (m : Machine) (root : ℕ) (r : Task) (task : ℕ) (why : Refusal) → IsReady m
    → IsKeeping m (fails_by m root r task why)
failed_keeps m root r task why ready = ends_keep m root r task Failed _ [] ready (no_more_edit tt)

-- its statement as a transaction of its own
carried_keeps : (m : Machine) (root : ℕ) (r : Task) (task : ℕ) (c : Changed) → IsReady m
    → ChangesTable m.state.objects c
    → IsKeeping m (carried_in m root r task (changes_in m 0 None c))
unfolding staged
carried_keeps m root r task (Fails why) ready table = failed_keeps m root r task why ready
carried_keeps m root r task (Gives id streams change e) ready table = by_refusal (commit_refusal m.state.objects t)
  where
    t : Transaction
    t = staged_in_state m.state (begun m.state.last) id streams e

    plain : PlainActs m (acts_of m.state.objects t)
    plain = acts_plain m t (omega arith) (staged_tables m.state.objects (begun m.state.last) id streams
        (next_row_of (table_at m.state.objects id)) e (begun_tables m.state.objects m.state.last) table)

    or_none : (acts : Option (List Act)) → PlainActs m acts
        → ArePlain m.state.last m.state.objects 0 (unwrap_or acts [])
    or_none None plain = no_more_edit tt
    or_none (Some acts) plain = plain

    by_refusal : (found : Option Refusal) → IsKeeping m
        (carried_in m root r task (unless found (Does (reply_to change e) m.sessions (acts_of m.state.objects t))))
    by_refusal (Some why) = failed_keeps m root r task why ready
    by_refusal None = ends_keep m root r task Succeeded _ (unwrap_or (acts_of m.state.objects t) []) ready
        (or_none (acts_of m.state.objects t) plain)

runs_keep : (m : Machine) (root : ℕ) (r : Task) (task : ℕ) (body : Dml) (v : Verdict) → IsReady m
    → IsKeeping m (runs_by m root r task body v)
runs_keep m root r task body (ticks.Fails why) ready = failed_keeps m root r task why ready
runs_keep m root r task body HoldsNot ready = ends_keep m root r task Skipped _ [] ready (no_more_edit tt)
runs_keep m root r task body Holds ready = carried_keeps m root r task _ ready (table_changed m 0 body)

run_keeps : (m : Machine) (root task : ℕ) → IsReady m → IsKeeping m (run_task m root task)
unfolding run_task
run_keeps m root task ready = by_tasks (task_at m.state.objects root) (task_at m.state.objects task)
  where
    by_tasks : (r t : Option Task) → IsKeeping m (runs_task m root task r t)
    by_tasks None t = answered m Idle ready
    by_tasks (Some r) None = answered m Idle ready
    by_tasks (Some r) (Some t) = runs_keep m root r task t.runs.body (verdict m t.runs.when) ready

starts_keep : (m : Machine) (root : ℕ) (found : Option Task) → IsReady m → IsKeeping m (starts_run m root found)
starts_keep m root None ready = answered m Idle ready
starts_keep m root (Some r) ready = tasked m (Started (name_at m.state.objects root)) _ ready (tt, (tt, tt))

refreshes_keep : (m : Machine) (due : Option (ℕ × ℕ)) → due_table (dynamics_of m.state.objects) m.state.last ≡ due
    → IsReady m → IsKeeping m (refreshes m due)
refreshes_keep m None is ready = answered m Idle ready
refreshes_keep m (Some due) is ready = due_keeps m due is ready

action_keeps : (m : Machine) (a : Action) → IsReady m → IsKeeping m (does_action m a)
action_keeps m (RunsTask root task) ready = run_keeps m root task ready
action_keeps m (StartsRun root) ready = starts_keep m root (task_at m.state.objects root) ready
action_keeps m DoesNothing ready =
    refreshes_keep m (due_table (dynamics_of m.state.objects) m.state.last) refl ready

tick_keeps : (m : Machine) → IsReady m → IsKeeping m (ticked m)
unfolding ticked
tick_keeps m ready = action_keeps m (action_at m) ready

-- ---- events

command_keeps : (m : Machine) (session : ℕ) (request : Request) → IsReady m → IsKeeping m (commanded m session request)
unfolding commanded
command_keeps m session TooLong ready = refused m (OverLimit limits.Statement) ready
command_keeps m session Unreadable ready = refused m SyntaxError ready
command_keeps m session (Asked tree) ready =
    either m (is_session session) _ _ (statement_keeps m session tree ready) (refused m (NoSuchSession session) ready)

pub event_keeps : (m : Machine) (e : Event) → IsReady m → IsKeeping m (outcome_of m e)
event_keeps m (Command reading session request) ready = command_keeps m session request ready
event_keeps m (Tick reading) ready = tick_keeps m ready
