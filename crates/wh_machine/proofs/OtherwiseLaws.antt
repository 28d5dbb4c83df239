-- What else happens consumes nothing.
--     none_moved           an event that doesn't consume a stream doesn't move it
--     stays                it leaves the stream as it was
--     nothing_consumed     and no batch comes of it
use Rattle.std.proofs.Common.{◌≡◌, ℕ, Bool, true, false, cond, List, [], Option, Some, None}
use Rattle.std.proofs.Common.{refl, ap, ◌∙◌, arith}
use Rattle.std.specs.Prelude.{nat_eq, nat_le, not, ◌&&◌, ◌||◌, is_some}
use Rattle.std.specs.List.{list_any}
use Rattle.std.proofs.lemmas.Bool.Decides.{nat_tests}
use Rattle.wh_grammar.specs.Spelled.{TooLong, Unreadable, Asked}
use Rattle.wh_ast.specs.declared.statement.Statement as tree
use Rattle.wh_ast.specs.declared.statement.Statement.TheVariants as st
use Rattle.wh_ddl_naming.specs.Statements as ddl
use Rattle.wh_reply.specs.Reply.{is_refusal}
use Rattle.wh_state.specs.State.{Table, Stream}
use Rattle.wh_state.specs.Objects.{task_at}
use Rattle.wh_state.specs.Objects.{table_at, stream_at}
use Rattle.wh_net.specs.Stream.{records_between, shown}
use Rattle.wh_machine.specs.Sessions.{transaction_in}
use Rattle.wh_machine.specs.Consuming.{task_reads, action_consumes}
use Rattle.wh_machine.specs.Consuming.{shown_of, shown_to, consumed, is_read_by, change_in}
use Rattle.wh_machine.specs.Consuming.{statement_consumes, event_consumes, consumes}
use Rattle.wh_machine.specs.Transaction.{Transaction}
use Rattle.wh_machine.specs.Outcome.{Machine, Outcome, Refuses, Does, settled}
use Rattle.wh_machine.specs.Statements.{streams_read, meant_in}
use Rattle.wh_machine.specs.Step.{Event, Command, Tick}
use Rattle.wh_machine.specs.Step.{decided, step}
use Rattle.wh_machine.proofs.MoveLaws.{among_streams}
use Rattle.wh_machine.proofs.StepLaws.{ready, each_event}
use Rattle.wh_machine.proofs.Lawful.{IsLawful}
use Rattle.wh_machine.proofs.OutcomeLaws.{moved_by, moved_alone, streams_of}
use Rattle.wh_machine.proofs.EventLaws.{event_moves, lawful}
use Rattle.wh_state.specs.Task.{Task}
use Rattle.wh_graph.specs.Action.{Action, RunsTask, StartsRun, DoesNothing}
use Rattle.wh_machine.specs.Ticks.{action_at}
use Rattle.wh_machine.proofs.TaskLaws.{task_moves, action_moves}

-- ---- the streams that move

committed_moves : (id : ℕ) (found : Option Transaction) → is_read_by found id ≡ false
    → list_any (nat_eq id) (streams_of found) ≡ false
committed_moves id None none = refl
committed_moves id (Some t) none = none

alone_moves : (id : ℕ) (streams : List ℕ) (found : Option Transaction)
    → (not (is_some found) && list_any (nat_eq id) streams) ≡ false
    → list_any (nat_eq id) (moved_alone streams found) ≡ false
alone_moves id streams None none = among_streams id streams [] ∙ ap (λ (b : Bool). b || false) none
alone_moves id streams (Some t) none = refl

statement_moves : (m : Machine) (session id : ℕ) (written : tree.Statement)
    → statement_consumes id m session written ≡ false
    → list_any (nat_eq id) (moved_by m session (meant_in m written).value) ≡ false
unfolding ddl.bound
statement_moves m session id st.Commit none = committed_moves id (transaction_in m.sessions session) none
statement_moves m session id (st.Dml change) none =
    alone_moves id (streams_read m (change_in m change)) (transaction_in m.sessions session) none
statement_moves m session id st.Begin none = refl
statement_moves m session id st.Rollback none = refl
statement_moves m session id (st.Select query sorts) none = refl
statement_moves m session id (st.HasData stream) none = refl
statement_moves m session id (st.CreateTable t) none = refl
statement_moves m session id (st.DropTable name) none = refl
statement_moves m session id (st.CreateStream name table is_append_only) none = refl
statement_moves m session id (st.DropStream name) none = refl
statement_moves m session id (st.CreateTask n) none = refl
statement_moves m session id (st.ResumeTask name) none = refl
statement_moves m session id (st.SuspendTask name) none = refl
statement_moves m session id (st.ExecuteTask name) none = refl
statement_moves m session id (st.DropTask name) none = refl
statement_moves m session id (st.CreateDynamicTable n) none = refl
statement_moves m session id (st.ResumeDynamicTable name) none = refl
statement_moves m session id (st.SuspendDynamicTable name) none = refl
statement_moves m session id (st.RefreshDynamicTable name) none = refl
statement_moves m session id (st.SetTargetLag name lag) none = refl
statement_moves m session id (st.DropDynamicTable name) none = refl

task_none : (m : Machine) (id : ℕ) (found : Option Task) → task_reads id m found ≡ false
    → list_any (nat_eq id) (task_moves m found) ≡ false
task_none m id None none = refl
task_none m id (Some t) none =
    among_streams id (streams_read m (change_in m t.runs.body)) [] ∙ ap (λ (b : Bool). b || false) none

action_none : (m : Machine) (id : ℕ) (a : Action) → action_consumes id m a ≡ false
    → list_any (nat_eq id) (action_moves m a) ≡ false
action_none m id (RunsTask root task) none = task_none m id (task_at m.state.objects task) none
action_none m id (StartsRun root) none = refl
action_none m id DoesNothing none = refl

none_moved : (m : Machine) (id : ℕ) (e : Event) → event_consumes id m e ≡ false
    → list_any (nat_eq id) (event_moves m e) ≡ false
none_moved m id (Tick reading) none = action_none m id (action_at m) none
none_moved m id (Command reading session TooLong) none = refl
none_moved m id (Command reading session Unreadable) none = refl
none_moved m id (Command reading session (Asked written)) none = statement_moves m session id written none

-- ---- a stream that isn't consumed

left_alone : (m : Machine) (id : ℕ) (s : Stream) {moving : List ℕ} (o : Outcome) → IsLawful m moving o
    → stream_at m.state.objects id ≡ Some s → list_any (nat_eq id) moving ≡ false
    → stream_at (settled m o).0.state.objects id ≡ Some s
left_alone m id s (Refuses why) holds at none = at
left_alone m id s (Does reply sessions None) holds at none = at
left_alone m id s (Does reply sessions (Some acts)) holds at none = holds.acts.stays id s at none

-- an event that doesn't consume the stream of an id leaves it as it is
pub stays : (m : Machine) (e : Event) (id : ℕ) (s : Stream) → stream_at m.state.objects id ≡ Some s
    → consumes id m e ≡ false → stream_at (step m e).0.state.objects id ≡ Some s
stays m e id s at none =
    each_event m e
    (λ p acts. (not (is_refusal p.1) && event_consumes id (ready m e) e) ≡ false
    → stream_at p.0.state.objects id ≡ Some s)
    (by_refusal (is_refusal (settled (ready m e) (decided m e)).1) refl) (λ none. at) none
  where
    by_refusal : (refused : Bool) → is_refusal (settled (ready m e) (decided m e)).1 ≡ refused
        → (not refused && event_consumes id (ready m e) e) ≡ false
        → stream_at (settled (ready m e) (decided m e)).0.state.objects id ≡ Some s
    by_refusal true is none =
        ap (λ (n : Machine). stream_at n.state.objects id) ((lawful (ready m e) e).refused is).1 ∙ at
    by_refusal false is none =
        left_alone (ready m e) id s (decided m e) (lawful (ready m e) e) at
        (none_moved (ready m e) id e none)

-- up to its offset a stream shows nothing
none_shown : (s : Stream) (found : Option Table) → shown_of found s s.offset ≡ []
unfolding shown
none_shown s None = refl
none_shown s (Some t) =
    let here : nat_le s.offset s.offset ≡ true = grind (arith, nat_tests) in
    ap (λ (b : Bool). cond b [] (records_between s.is_append_only t s.offset s.offset)) here

-- so no batch comes of it
pub nothing_consumed : (id : ℕ) (m : Machine) (e : Event) → consumes id m e ≡ false → consumed id m e ≡ []
nothing_consumed id m e none = by_stream (stream_at m.state.objects id) refl
  where
    by_stream : (found : Option Stream) → stream_at m.state.objects id ≡ found → consumed id m e ≡ []
    by_stream None is =
        ap (λ (found : Option Stream). shown_to m.state.objects found (stream_at (step m e).0.state.objects id)) is
    by_stream (Some s) is =
        ap (λ (found : Option Stream). shown_to m.state.objects found (stream_at (step m e).0.state.objects id)) is
        ∙ ap (shown_to m.state.objects (Some s)) (stays m e id s is none)
        ∙ none_shown s (table_at m.state.objects s.source)
