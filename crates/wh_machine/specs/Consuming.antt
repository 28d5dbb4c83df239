-- What a stream's source was when it was read, and the batches that it was consumed in.
--     Extends               a list that has a later value for each of another's, and more behind
--     base_in, base_at      a table that is no dynamic one
--     IsLaterKind           a table with the versions that it had before a stamp; a stream whose offset moved on
--     IsLater, AreLater     an object, and all objects
--     rows_then             the rows of the table of an id at a time
--     consumed, batches     what events consumed of a stream, from its offset before to the one behind
--     AreApart              no two sessions hold one stream
--     IsHeldAlong           a session holds a stream all along a run
--     committing, changing  a command that asks for COMMIT, and one for a change of rows
--     change_in             a change of rows over the live objects; change_reads, that it reads a stream
--     consumes              an event is an accepted one of those that consume a stream
--     has_succeeded         a tick carried out the statement of a task
--     all_patched           rows with batches of changes made, one after the other
use Rattle.std.specs.Prelude.{◌≡◌, ℕ, ◌-◌, ◌<◌, ◌≤◌, max, Bool, true, false, List, [], ◌∷◌, Option, Some, None}
use Rattle.std.specs.Prelude.{nat_eq, not, ◌&&◌, is_some}
use Rattle.std.specs.List.{list_any}
use Rattle.std.specs.Option.{option_and_then, option_map_or, IsSomeAnd}
use Rattle.std.specs.FinMap.{empty}
use Rattle.wh_ast.specs.declared.dml.Dml.{Dml}
use Rattle.wh_ast.specs.declared.statement.Statement as tree
use Rattle.wh_ast.specs.declared.statement.Statement.TheVariants as st
use Rattle.wh_grammar.specs.Spelled.{TooLong, Unreadable}
use Rattle.wh_grammar.specs.Spelled.{Asked}
use Rattle.wh_naming.specs.Changes.{BoundChange, bound_change}
use Rattle.wh_reply.specs.Reply.{Reply, TaskSucceeded, is_refusal}
use Rattle.wh_state.specs.State.{TaskKind, DynamicKind, task_in, dynamic_in}
use Rattle.wh_state.specs.State.{Rows, Kind, TableKind, StreamKind, Object, Table, Stream, stream_in, at_id}
use Rattle.wh_state.specs.Objects.{task_at}
use Rattle.wh_state.specs.Objects.{table_at, stream_at}
use Rattle.wh_machine.specs.Names.{names_from}
use Rattle.wh_net.specs.Net.{RowChange, patch}
use Rattle.wh_net.specs.Stream.{rows_at, shown}
use Rattle.wh_machine.specs.Transaction.{Transaction}
use Rattle.wh_machine.specs.Sessions.{Sessions, transaction_in}
use Rattle.wh_machine.specs.Outcome.{Machine}
use Rattle.wh_machine.specs.Statements.{streams_read}
use Rattle.wh_graph.specs.Action.{Action, RunsTask, StartsRun, DoesNothing}
use Rattle.wh_machine.specs.Ticks.{action_at}
use Rattle.wh_machine.specs.Step.{Event, Command, Tick, reading_of, stamp_of, at_stamp, step}
use Rattle.wh_state.specs.Task.{Task}

abbrev pub Extends : {X : Type 0} → (X → X → Type 0) → List X → List X → Type 0
Extends R [] ys = Unit {0}
Extends R (x ∷ xs) [] = ⊥
Extends R (x ∷ xs) (y ∷ ys) = R x y × Extends R xs ys

-- a table that is no dynamic one
abbrev pub base_in : Kind → Option Table
base_in (TableKind t) = Some t
base_in (StreamKind s) = None
base_in (TaskKind t) = None
base_in (DynamicKind d t) = None

abbrev pub base_at : List Object → ℕ → Option Table
base_at objects id = option_and_then (λ o. base_in o.kind) (at_id objects id)

-- it has the rows that it had before a stamp
abbrev pub IsLaterTable : ℕ → Table → Table → Type 0
IsLaterTable stamp old new = (time : ℕ) → time < stamp → rows_at new time ≡ rows_at old time

pub record IsLaterStream (stamp : ℕ) (old new : Stream) : Type 0 where
  pub source : new.source ≡ old.source
  pub mode : new.is_append_only ≡ old.is_append_only
  pub not_before : old.offset ≤ new.offset
  pub not_behind : new.offset ≤ max old.offset (stamp - 1)

abbrev pub IsLaterKind : ℕ → Kind → Kind → Type 0
IsLaterKind stamp (TableKind old) new = IsSomeAnd (base_in new) (IsLaterTable stamp old)
IsLaterKind stamp (StreamKind old) new = IsSomeAnd (stream_in new) (IsLaterStream stamp old)
IsLaterKind stamp (TaskKind old) new = IsSomeAnd (task_in new) (λ t. Unit {0})
IsLaterKind stamp (DynamicKind old t) new = IsSomeAnd (dynamic_in new) (λ d. Unit {0})

abbrev pub IsLater : ℕ → Object → Object → Type 0
IsLater stamp old new = IsLaterKind stamp old.kind new.kind

abbrev pub AreLater : ℕ → List Object → List Object → Type 0
AreLater stamp old new = Extends (IsLater stamp) old new

-- ---- what was consumed

abbrev pub rows_then : List Object → ℕ → ℕ → Rows
rows_then objects id time = of_table (table_at objects id)
  where
    of_table : Option Table → Rows
    of_table None = empty
    of_table (Some t) = rows_at t time

-- what a stream showed up to a stamp
abbrev pub shown_of : Option Table → Stream → ℕ → List RowChange
shown_of None s to = []
shown_of (Some t) s to = shown t s to

abbrev pub shown_to : List Object → Option Stream → Option Stream → List RowChange
shown_to objects None new = []
shown_to objects (Some old) None = []
shown_to objects (Some old) (Some new) = shown_of (table_at objects old.source) old new.offset

-- by an event, of the stream of an id; nothing where its offset stays
abbrev pub consumed : ℕ → Machine → Event → List RowChange
consumed id m e = shown_to m.state.objects (stream_at m.state.objects id) (stream_at (step m e).0.state.objects id)

abbrev pub batches : ℕ → Machine → List Event → List (List RowChange)
batches id m [] = []
batches id m (e ∷ es) = consumed id m e ∷ batches id (step m e).0 es

abbrev pub all_patched : Rows → List (List RowChange) → Rows
all_patched rows [] = rows
all_patched rows (batch ∷ others) = all_patched (patch rows batch) others

-- up to the offset of a stream
abbrev pub rows_consumed : List Object → Option Stream → Rows
rows_consumed objects None = empty
rows_consumed objects (Some s) = rows_then objects s.source s.offset

-- ---- transactions that read streams

abbrev pub is_read_by : Option Transaction → ℕ → Bool
is_read_by None id = false
is_read_by (Some t) id = list_any (nat_eq id) t.streams

-- whether the transaction of a session has read the stream of an id, and holds it
abbrev pub reads : Sessions → ℕ → ℕ → Bool
reads sessions session id = is_read_by (transaction_in sessions session) id

-- no two sessions hold one stream
abbrev pub AreApart : Sessions → Type 0
AreApart sessions =
    (one other id : ℕ) → reads sessions one id ≡ true → reads sessions other id ≡ true → one ≡ other

-- at each moment of a run
abbrev pub IsHeldAlong : ℕ → ℕ → Machine → List Event → Type 0
IsHeldAlong session id m [] = reads m.sessions session id ≡ true
IsHeldAlong session id m (e ∷ es) = (reads m.sessions session id ≡ true) × IsHeldAlong session id (step m e).0 es

-- ---- commands that consume

-- of a session at a clock reading
abbrev pub committing : ℕ → ℕ → Event
committing reading session = Command reading session (Asked st.Commit)

abbrev pub changing : ℕ → ℕ → Dml → Event
changing reading session statement = Command reading session (Asked (st.Dml statement))

abbrev pub change_in : Machine → Dml → BoundChange
change_in m statement = bound_change (names_from 1 m.state.objects) statement

-- whether a change reads the stream of an id
abbrev pub change_reads : Machine → Dml → ℕ → Bool
change_reads m statement id = list_any (nat_eq id) (streams_read m (change_in m statement))

-- the COMMIT of a transaction that holds it, and a change outside of a transaction that reads it
abbrev pub statement_consumes : ℕ → Machine → ℕ → tree.Statement → Bool
statement_consumes id m session st.Commit = reads m.sessions session id
statement_consumes id m session (st.Dml change) =
    not (is_some (transaction_in m.sessions session)) && change_reads m change id
statement_consumes id m session _ = false

-- a task by its statement
abbrev pub task_reads : ℕ → Machine → Option Task → Bool
task_reads id m found = option_map_or (λ t. change_reads m t.runs.body id) found false

abbrev pub action_consumes : ℕ → Machine → Action → Bool
action_consumes id m (RunsTask root task) = task_reads id m (task_at m.state.objects task)
action_consumes id m (StartsRun root) = false
action_consumes id m DoesNothing = false

-- over the machine at its stamp
abbrev pub event_consumes : ℕ → Machine → Event → Bool
event_consumes id m (Command reading session (Asked written)) = statement_consumes id m session written
event_consumes id m (Command reading session TooLong) = false
event_consumes id m (Command reading session Unreadable) = false
event_consumes id m (Tick reading) = action_consumes id m (action_at m)

-- the run of a task that carried out its statement
abbrev pub has_succeeded : Reply → Bool
has_succeeded (TaskSucceeded name counts aftermath) = true
has_succeeded _ = false

-- where it isn't refused
abbrev pub consumes : ℕ → Machine → Event → Bool
consumes id m e =
    not (is_refusal (step m e).1) && event_consumes id (at_stamp m (stamp_of m.state (reading_of e))) e
