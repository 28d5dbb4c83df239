-- What each event comes to works over the file that its machine was reached from.
--     IsFilled, IsFilledEvent     new names and columns are not empty, and changes stand in a text
--     works_event                 of each event
use Rattle.std.proofs.Common.{◌≡◌, ℕ, suc, ◌<◌, false, List, []}
use Rattle.std.proofs.Common.{◌∷◌, length, map, Option, Some, None, option_map, refl, subst}
use Rattle.wh_value.specs.View.{column_of}
use Rattle.wh_value.specs.declared.limit.Limit.TheVariants as limits
use Rattle.wh_ast.specs.declared.statement.Statement.{Statement}
use Rattle.wh_ast.specs.declared.statement.Statement.TheVariants as st
use Rattle.wh_grammar.specs.Token.{Token}
use Rattle.wh_grammar.specs.Changing.{IsDml}
use Rattle.wh_grammar.specs.Spelled.{Request, TooLong, Unreadable, Asked, most_nested}
use Rattle.wh_meaning.specs.Bag.{Bag}
use Rattle.wh_meaning.specs.Query.{eval}
use Rattle.wh_naming.specs.Scope.{TableObject, StreamObject, DynamicTableObject}
use Rattle.wh_naming.specs.Changes.{bound_change}
use Rattle.wh_naming.specs.Select.{BoundSelect, bound_select}
use Rattle.wh_ddl_naming.specs.Meant.{first_failing}
use Rattle.wh_ddl_naming.specs.Objects.{object_of}
use Rattle.wh_ddl_naming.specs.Statements as ddl
use Rattle.wh_ddl_naming.specs.Statements.{Bound}
use Rattle.wh_reply.specs.Reply.{Refusal, Reply, SyntaxError, NoSuchSession, OverLimit, NumberOutOfRange}
use Rattle.wh_reply.specs.Reply.{NoTransaction, Begun, RolledBack, Listing, HasData}
use Rattle.wh_meaning.specs.Listing.{listed}
use Rattle.wh_net.specs.Stream.{rows_shown, has_rows}
use Rattle.wh_state.specs.State.{Stream}
use Rattle.wh_state.specs.Objects.{stream_at}
use Rattle.wh_state.specs.Stored.{StoredObject, Stored}
use Rattle.wh_state.proofs.AllLaws.{all_with}
use Rattle.wh_machine.specs.Transaction.{Transaction, begun, acts_of}
use Rattle.wh_machine.specs.Sessions.{Sessions, transaction_in, with_ended, with_begun}
use Rattle.wh_machine.specs.Names.{names_from, names_in, refusal_of}
use Rattle.wh_machine.specs.Outcome.{Machine, Does, answers}
use Rattle.wh_machine.specs.Queries.{listing_of}
use Rattle.wh_machine.specs.Reading.{instance_read, reading_refusal, asked, has_data, start_in}
use Rattle.wh_machine.specs.Tables.{drop_table}
use Rattle.wh_machine.specs.Streams.{drop_stream}
use Rattle.wh_machine.specs.Dynamics.{drop_dynamic}
use Rattle.wh_machine.specs.Statements.{begin, commit, commit_of, commit_reply, rollback, rollback_of, changes_rows}
use Rattle.wh_machine.specs.Statements.{bound_changed, selects, select_refusal, carried_out, carried_out_as, meant_in}
use Rattle.wh_machine.specs.Step.{Event, Command, Tick, is_session, commanded, outcome_of}
use Rattle.wh_machine.proofs.StandLaws.{StandsOn, AllStandOn}
use Rattle.wh_machine.proofs.WorksLaws.{IsReached, Works, works_refuses}
use Rattle.wh_machine.proofs.WorksLaws.{works_unless, works_either, works_does, works_recorded}
use Rattle.wh_machine.proofs.DefineLaws.{IsFilledTable, works_table, works_stream, works_drop}
use Rattle.wh_machine.proofs.TaskWorks.{works_resume, works_suspend, works_drop_task}
use Rattle.wh_machine.proofs.StartWorks.{works_execute}
use Rattle.wh_machine.proofs.TickWorks.{works_tick}
use Rattle.wh_machine.proofs.TaskMade.{IsFilledTask, works_create_task}
use Rattle.wh_machine.proofs.DynamicWorks.{works_suspend_dynamic, works_resume_dynamic, works_lag}
use Rattle.wh_machine.proofs.DynamicWorks.{works_refresh_dynamic}
use Rattle.wh_machine.proofs.DynamicMade.{IsFilledDynamic, works_create_dynamic}
use Rattle.wh_machine.proofs.StageLaws.{begun_stands, one_stands, works_changes}
use Rattle.wh_machine.proofs.ChangeLaws.{change_fits}

-- ---- what is asked of a statement

abbrev pub IsFilled : Statement → Type 0
IsFilled (st.CreateTable t) = IsFilledTable t.name (map column_of t.columns)
IsFilled (st.CreateStream name table is_append_only) = 0 < length name
IsFilled (st.CreateTask t) = IsFilledTask t
IsFilled (st.CreateDynamicTable t) = IsFilledDynamic t
IsFilled (st.Dml x) = (ts : List Token) × IsDml most_nested ts x []
IsFilled _ = Unit {0}

abbrev pub IsFilledRequest : Request → Type 0
IsFilledRequest (Asked statement) = IsFilled statement
IsFilledRequest _ = Unit {0}

abbrev pub IsFilledEvent : Event → Type 0
IsFilledEvent (Command reading session request) = IsFilledRequest request
IsFilledEvent (Tick reading) = Unit {0}

-- ---- statements that make no commit

ended_stand : (objects : List StoredObject) (sessions : Sessions) (session : ℕ) → AllStandOn objects sessions
    → AllStandOn objects (with_ended sessions session)
ended_stand objects sessions session stand = all_with (StandsOn objects) sessions (suc session) None stand tt

works_begin : (s : Stored) (m : Machine) (session : ℕ) → IsReached s m → Works s m (begin m session)
unfolding begin
works_begin s m session reached =
    works_unless s m _ (Does (Begun m.state.last) (with_begun m.sessions session m.state.last) None) reached (λ none.
    works_does s m (Begun m.state.last) (with_begun m.sessions session m.state.last)
    (all_with (StandsOn s.objects) m.sessions (suc session) (Some (begun m.state.last)) reached.stand
    (begun_stands s.objects m.state.last)))

works_rollback : (s : Stored) (m : Machine) (session : ℕ) (t : Option Transaction) → IsReached s m
    → Works s m (rollback_of m session t)
works_rollback s m session None reached = works_refuses s m NoTransaction reached
works_rollback s m session (Some t) reached =
    works_does s m RolledBack (with_ended m.sessions session) (ended_stand s.objects m.sessions session reached.stand)

works_commit : (s : Stored) (m : Machine) (session : ℕ) (t : Option Transaction) → transaction_in m.sessions session ≡ t
    → IsReached s m → Works s m (commit_of m session t)
works_commit s m session None is reached = works_refuses s m NoTransaction reached
works_commit s m session (Some t) is reached =
    works_recorded s m (commit_reply m.state.last (acts_of m.state.objects t)) (with_ended m.sessions session) t reached
    (ended_stand s.objects m.sessions session reached.stand)
    (subst (StandsOn s.objects) is (one_stands s.objects m.sessions session reached.stand))

works_answers : (s : Stored) (m : Machine) (reply : Reply) → IsReached s m → Works s m (answers m reply)
works_answers s m reply reached = works_does s m reply m.sessions reached.stand

works_listing : (s : Stored) (m : Machine) (b : BoundSelect) (rows : Option Bag) → IsReached s m
    → Works s m (listing_of m b rows)
works_listing s m b None reached = works_refuses s m NumberOutOfRange reached
works_listing s m b (Some rows) reached = works_answers s m (Listing b.names (listed b.keys rows)) reached

works_asked : (s : Stored) (m : Machine) (session id : ℕ) (found : Option Stream) → IsReached s m
    → Works s m (asked m session id found)
works_asked s m session id None reached = works_answers s m (HasData false) reached
works_asked s m session id (Some stream) reached =
    works_unless s m (reading_refusal m.state.objects m.state.last (id ∷ [])) _ reached (λ none.
    works_answers s m (HasData (has_rows (rows_shown m.state.objects stream (start_in m session)))) reached)

works_select : (s : Stored) (m : Machine) (session : ℕ) (b : BoundSelect) → IsReached s m →
    Works s m (selects m session b)
unfolding selects
works_select s m session b reached =
    works_unless s m (select_refusal m b) _ reached (λ none.
    works_listing s m b (eval b.query (instance_read m session b.sources)) reached)

works_data : (s : Stored) (m : Machine) (session : ℕ) (wrong : Option Refusal) (id : ℕ) → IsReached s m
    → Works s m (has_data m session wrong id)
unfolding has_data
works_data s m session wrong id reached =
    works_unless s m wrong _ reached (λ none. works_asked s m session id (stream_at m.state.objects id) reached)

-- ---- each statement

works_statement : (s : Stored) (m : Machine) (session : ℕ) (statement : Statement) → IsFilled statement → IsReached s m
    → Works s m (carried_out_as m session (meant_in m statement))
unfolding ddl.bound carried_out commit rollback changes_rows drop_table drop_stream drop_dynamic
works_statement s m session (st.Select q sorts) filled reached =
    works_select s m session (bound_select (names_from 1 m.state.objects) q sorts) reached
works_statement s m session (st.HasData stream) filled reached =
    works_data s m session (option_map refusal_of
    (first_failing (object_of StreamObject (names_in m.state.objects) stream)))
    (object_of StreamObject (names_in m.state.objects) stream).value reached
works_statement s m session (st.Dml statement) filled reached =
    works_changes s m session (transaction_in m.sessions session) refl
    (bound_changed m session (bound_change (names_from 1 m.state.objects) statement)) reached
    (change_fits s m session reached statement filled.1)
works_statement s m session (st.CreateTable t) filled reached = works_table s m session t reached filled
works_statement s m session (st.CreateStream name table is_append_only) filled reached =
    works_stream s m session name table is_append_only reached filled
works_statement s m session (st.DropTable name) filled reached =
    works_drop s m session TableObject name _ refl reached
works_statement s m session (st.DropStream name) filled reached =
    works_drop s m session StreamObject name _ refl reached
works_statement s m session st.Begin filled reached = works_begin s m session reached
works_statement s m session st.Commit filled reached =
    works_commit s m session (transaction_in m.sessions session) refl reached
works_statement s m session st.Rollback filled reached =
    works_rollback s m session (transaction_in m.sessions session) reached
works_statement s m session (st.CreateTask t) filled reached = works_create_task s m session t reached filled
works_statement s m session (st.ResumeTask name) filled reached = works_resume s m session name reached
works_statement s m session (st.SuspendTask name) filled reached = works_suspend s m session name reached
works_statement s m session (st.ExecuteTask name) filled reached = works_execute s m session name reached
works_statement s m session (st.CreateDynamicTable t) filled reached =
    works_create_dynamic s m session t reached filled
works_statement s m session (st.ResumeDynamicTable name) filled reached =
    works_resume_dynamic s m reached session name
works_statement s m session (st.SuspendDynamicTable name) filled reached =
    works_suspend_dynamic s m reached session name
works_statement s m session (st.RefreshDynamicTable name) filled reached =
    works_refresh_dynamic s m reached session name
works_statement s m session (st.SetTargetLag name lag) filled reached = works_lag s m reached session name lag
works_statement s m session (st.DropTask name) filled reached = works_drop_task s m session name reached
works_statement s m session (st.DropDynamicTable name) filled reached =
    works_drop s m session DynamicTableObject name _ refl reached

works_command : (s : Stored) (m : Machine) (session : ℕ) (request : Request) → IsFilledRequest request → IsReached s m
    → Works s m (commanded m session request)
unfolding commanded
works_command s m session TooLong filled reached = works_refuses s m (OverLimit limits.Statement) reached
works_command s m session Unreadable filled reached = works_refuses s m SyntaxError reached
works_command s m session (Asked statement) filled reached =
    works_either s m (is_session session) _ _ (works_statement s m session statement filled reached)
    (works_refuses s m (NoSuchSession session) reached)

pub works_event : (s : Stored) (m : Machine) (e : Event) → IsFilledEvent e → IsReached s m → Works s m (outcome_of m e)
works_event s m (Command reading session request) filled reached =
    works_command s m session request filled reached
works_event s m (Tick reading) filled reached = works_tick s m reached
