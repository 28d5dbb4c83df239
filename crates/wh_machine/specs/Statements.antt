-- The statements of a session, at the last stamp of the machine.
--     begin, commit, rollback        transactions that begin and end
--     recorded                       a transaction that commits
--     changes_rows                   INSERT, UPDATE, DELETE and MERGE: staged in a
--                                    transaction, or one of their own
--     selects                        SELECT, of what its transaction sees
--     carried_out                    each statement, bound to the objects that it names
use Rattle.std.specs.Prelude.{ℕ, List, [], ◌∷◌, Option, Some, None, option_map}
use Rattle.wh_ast.specs.declared.statement.Statement as tree
use Rattle.wh_meaning.specs.Query.{eval}
use Rattle.wh_naming.specs.Changes.{BoundChange}
use Rattle.wh_naming.specs.Select.{BoundSelect}
use Rattle.wh_ddl_naming.specs.Meant.{Meant, first_failing}
use Rattle.wh_ddl_naming.specs.Statements as ddl
use Rattle.wh_ddl_naming.specs.Statements.{Bound}
use Rattle.wh_reply.specs.Reply.{Refusal, Reply, TransactionOpen, NoTransaction, Locked}
use Rattle.wh_reply.specs.Reply.{Begun, Committed, CommittedNothing, RolledBack}
use Rattle.wh_state.specs.Act.{Act}
use Rattle.wh_state.specs.Objects.{table_at}
use Rattle.wh_machine.specs.Tests.{first_of}
use Rattle.wh_machine.specs.Names.{names_in, refusal_of, naming_refusal}
use Rattle.wh_machine.specs.Offsets.{streams_among}
use Rattle.wh_machine.specs.Changes.{Changed, Fails, Gives, given_on, fails_or, reply_to}
use Rattle.wh_machine.specs.Transaction.{Transaction, begun, staged_in_state, acts_of, commit_refusal}
use Rattle.wh_machine.specs.Sessions.{Sessions, transaction_in, number_in, first_locked, with_transaction, with_begun}
use Rattle.wh_machine.specs.Sessions.{with_ended}
use Rattle.wh_machine.specs.Outcome.{Machine, Outcome, Refuses, Does, unless}
use Rattle.wh_machine.specs.Queries.{listing_of}
use Rattle.wh_machine.specs.Reading.{objects_seen, instance_read, reading_refusal, has_data}
use Rattle.wh_machine.specs.Definitions.{defines}
use Rattle.wh_machine.specs.Tables.{create_table, drop_table}
use Rattle.wh_machine.specs.Streams.{create_stream, drop_stream}
use Rattle.wh_machine.specs.Tasks.{create_task, resume_task, suspend_task, execute_task, drop_task}
use Rattle.wh_machine.specs.Dynamics.{create_dynamic, resume_dynamic, suspend_dynamic, refresh_dynamic, set_lag}
use Rattle.wh_machine.specs.Dynamics.{drop_dynamic}

-- ---- BEGIN, COMMIT, ROLLBACK

unfoldable pub begin : Machine → ℕ → Outcome
begin m session = unless (option_map TransactionOpen (number_in m.sessions session))
    (Does (Begun m.state.last) (with_begun m.sessions session m.state.last) None)

-- a transaction that commits: it is refused where a table would pass a limit
abbrev pub recorded : Machine → Reply → Sessions → Transaction → Outcome
recorded m reply sessions t =
    unless (commit_refusal m.state.objects t) (Does reply sessions (acts_of m.state.objects t))

abbrev pub commit_reply : ℕ → Option (List Act) → Reply
commit_reply stamp None = CommittedNothing
commit_reply stamp (Some acts) = Committed stamp

abbrev pub commit_of : Machine → ℕ → Option Transaction → Outcome
commit_of m session None = Refuses NoTransaction
commit_of m session (Some t) =
    recorded m (commit_reply m.state.last (acts_of m.state.objects t)) (with_ended m.sessions session) t

-- a commit that is refused leaves its transaction open
unfoldable pub commit : Machine → ℕ → Outcome
commit m session = commit_of m session (transaction_in m.sessions session)

abbrev pub rollback_of : Machine → ℕ → Option Transaction → Outcome
rollback_of m session None = Refuses NoTransaction
rollback_of m session (Some t) = Does RolledBack (with_ended m.sessions session) None

unfoldable pub rollback : Machine → ℕ → Outcome
rollback m session = rollback_of m session (transaction_in m.sessions session)

-- ---- INSERT, UPDATE, DELETE, MERGE

-- the streams that a change reads
abbrev pub streams_read : Machine → BoundChange → List ℕ
streams_read m b = streams_among m.state.objects b.sources

-- names and types first, then that its streams can be read, and that no other transaction holds its target or one of
-- its streams
abbrev pub change_refusal : Machine → ℕ → BoundChange → Option Refusal
change_refusal m session b = first_of (
    naming_refusal b.findings b.is_wide
    ∷ reading_refusal m.state.objects m.state.last b.sources
    ∷ option_map Locked (first_locked m.sessions session (b.target ∷ streams_read m b))
    ∷ [])

-- and then its evaluation on what is seen
abbrev pub bound_changed : Machine → ℕ → BoundChange → Changed
bound_changed m session b = fails_or (change_refusal m session b)
    (given_on (streams_read m b) (instance_read m session b.sources) b (table_at (objects_seen m session) b.target))

-- in a transaction a change is staged, and its numbers are tested by COMMIT; outside it is a transaction of its own
abbrev pub changes_in : Machine → ℕ → Option Transaction → Changed → Outcome
changes_in m session t (Fails why) = Refuses why
changes_in m session None (Gives id streams change e) =
    recorded m (reply_to change e) m.sessions (staged_in_state m.state (begun m.state.last) id streams e)
changes_in m session (Some t) (Gives id streams change e) = Does (reply_to change e)
    (with_transaction m.sessions session (staged_in_state m.state t id streams e)) None

unfoldable pub changes_rows : Machine → ℕ → BoundChange → Outcome
changes_rows m session b = changes_in m session (transaction_in m.sessions session) (bound_changed m session b)

-- ---- SELECT

abbrev pub select_refusal : Machine → BoundSelect → Option Refusal
select_refusal m b = first_of (
    naming_refusal b.findings b.is_wide
    ∷ reading_refusal m.state.objects m.state.last b.sources
    ∷ [])

unfoldable pub selects : Machine → ℕ → BoundSelect → Outcome
selects m session b =
    unless (select_refusal m b) (listing_of m b (eval b.query (instance_read m session b.sources)))

-- ---- a statement of a session

-- with the first test of names that it fails
unfoldable pub carried_out : Machine → ℕ → Option Refusal → Bound → Outcome
carried_out m session wrong ddl.Begin = begin m session
carried_out m session wrong ddl.Commit = commit m session
carried_out m session wrong ddl.Rollback = rollback m session
carried_out m session wrong (ddl.Change b) = changes_rows m session b
carried_out m session wrong (ddl.Select b) = selects m session b
carried_out m session wrong (ddl.HasData stream) = has_data m session wrong stream
carried_out m session wrong (ddl.CreateTable n) = defines m session n.replaced (create_table m wrong n)
carried_out m session wrong (ddl.DropTable id) = defines m session (Some id) (drop_table m wrong id)
carried_out m session wrong (ddl.CreateStream n) = defines m session None (create_stream m wrong n)
carried_out m session wrong (ddl.DropStream id) = defines m session (Some id) (drop_stream m wrong id)
carried_out m session wrong (ddl.CreateTask n) = defines m session None (create_task m wrong n)
carried_out m session wrong (ddl.ResumeTask id) = defines m session None (resume_task m wrong id)
carried_out m session wrong (ddl.SuspendTask id) = defines m session None (suspend_task m wrong id)
carried_out m session wrong (ddl.ExecuteTask root) = defines m session None (execute_task m wrong root)
carried_out m session wrong (ddl.DropTask id) = defines m session (Some id) (drop_task m wrong id)
carried_out m session wrong (ddl.CreateDynamicTable n) = defines m session None (create_dynamic m wrong n)
carried_out m session wrong (ddl.ResumeDynamicTable id) = defines m session None (resume_dynamic m wrong id)
carried_out m session wrong (ddl.SuspendDynamicTable id) = defines m session None (suspend_dynamic m wrong id)
carried_out m session wrong (ddl.RefreshDynamicTable id) = defines m session None (refresh_dynamic m wrong id)
carried_out m session wrong (ddl.SetTargetLag id lag) = defines m session None (set_lag m wrong id lag)
carried_out m session wrong (ddl.DropDynamicTable id) = defines m session (Some id) (drop_dynamic m wrong id)

abbrev pub carried_out_as : Machine → ℕ → Meant Bound → Outcome
carried_out_as m session b = carried_out m session (option_map refusal_of (first_failing b)) b.value

-- the statement that a tree is, by the live objects
abbrev pub meant_in : Machine → tree.Statement → Meant Bound
meant_in m statement = ddl.bound (names_in m.state.objects) statement
