-- Laws of the machine.
use Rattle.std.specs.Prelude.{◌≡◌, ℕ, max, IsTrue, true, false, List, [], Some, None, map}
use Rattle.wh_ast.specs.declared.dml.Dml.{Dml}
use Rattle.wh_ast.specs.declared.query.Query.{Query}
use Rattle.wh_ast.specs.declared.query.Sort.{Sort}
use Rattle.wh_ast.specs.declared.statement.Statement.TheVariants as st
use Rattle.wh_grammar.specs.Spelled.{Asked}
use Rattle.wh_meaning.specs.Bag.{bag_of}
use Rattle.wh_reply.specs.Reply.{is_refusal}
use Rattle.wh_state.specs.State.{State, Table, Stream, with_offset}
use Rattle.wh_state.specs.Edits.{is_among}
use Rattle.wh_state.specs.Objects.{stream_at}
use Rattle.wh_state.specs.Sound.{Sound}
use Rattle.wh_state.specs.Stored.{Stored, Means}
use Rattle.wh_state.specs.Commit.{Leads}
use Rattle.wh_state.specs.File.{Keeps}
use Rattle.wh_net.specs.Stream.{rows_at, shown_row}
use Rattle.wh_machine.specs.Transaction.{Transaction, start_of, start_at}
use Rattle.wh_machine.specs.Sessions.{transaction_in}
use Rattle.wh_machine.specs.Outcome.{Machine, opened, settled}
use Rattle.wh_machine.specs.Reading.{rows_read}
use Rattle.wh_machine.specs.Statements.{commit}
use Rattle.wh_machine.specs.Step.{Event, Command, Tick, stamp_of, at_stamp, step, after}
use Rattle.wh_machine.specs.Script.{IsScript}
use Rattle.wh_machine.specs.Made.{all_made, kept_after_all}
use Rattle.wh_machine.specs.Sound.{SoundMachine}
use Rattle.wh_machine.specs.Refresh.{with_upstream}
use Rattle.wh_machine.specs.OneMoment.{IsOfOneMoment, StandsAt, refreshing, id_refreshed}
use Rattle.wh_machine.specs.Consuming.{base_at, consumed, batches, all_patched, rows_consumed, reads, AreApart}
use Rattle.wh_machine.specs.Consuming.{IsHeldAlong}
use Rattle.wh_machine.specs.Consuming.{committing, changing, change_reads, consumes, event_consumes, has_succeeded}

-- ---- machines that are reached from a sound file

-- what the laws of streams ask of a machine
pub record IsSoundAndApart (m : Machine) : Type 0 where
  pub sound : SoundMachine m
  pub apart : AreApart m.sessions

abbrev pub SoundStatesOpen : Type 0
SoundStatesOpen = (s : State) → Sound s → IsSoundAndApart (opened s)

abbrev pub EventsKeepMachinesSound : Type 0
EventsKeepMachinesSound = (m : Machine) (e : Event) → IsSoundAndApart m → IsSoundAndApart (step m e).0

-- ---- events

-- a refused event changes nothing but the last stamp, and no transaction
abbrev pub RefusalsChangeNothing : Type 0
RefusalsChangeNothing = (m : Machine) (e : Event) → IsTrue (is_refusal (step m e).1)
    → (step m e).0 ≡ at_stamp m (step m e).0.state.last

-- a standard stream on a table, over any events: patching the version at its first offset with what the commits
-- consumed of it, in order, gives the version at its last offset
abbrev pub BatchesLead : Type 0
BatchesLead = (id : ℕ) (m : Machine) (es : List Event) → SoundMachine m → (s : Stream) (t : Table)
    → stream_at m.state.objects id ≡ Some s → s.is_append_only ≡ false → base_at m.state.objects s.source ≡ Some t
    → all_patched (rows_at t s.offset) (batches id m es)
    ≡ rows_consumed (after m es).state.objects (stream_at (after m es).state.objects id)

-- as long as a transaction holds a standard stream on a table, each of its statements reads the same of it
abbrev pub ReadsTheSame : Type 0
ReadsTheSame = (session id : ℕ) (m : Machine) (es : List Event) → SoundMachine m → AreApart m.sessions
    → IsHeldAlong session id m es → (s : Stream) (t : Table) → stream_at m.state.objects id ≡ Some s
    → s.is_append_only ≡ false → base_at m.state.objects s.source ≡ Some t
    → rows_read (after m es) session id ≡ rows_read m session id

-- the COMMIT of a transaction that read a stream moves it to the transaction's start, up to which it was read
abbrev pub CommitsMoveToTheStart : Type 0
CommitsMoveToTheStart = (m : Machine) (session id : ℕ) (t : Transaction) (s : Stream)
    → transaction_in m.sessions session ≡ Some t → stream_at m.state.objects id ≡ Some s
    → reads m.sessions session id ≡ true → is_refusal (settled m (commit m session)).1 ≡ false
    → stream_at (settled m (commit m session)).0.state.objects id ≡ Some (with_offset (max s.offset (start_of t)) s)

-- a change outside of a transaction that reads a stream moves it to its start, up to which it reads it
abbrev pub ChangesMoveToTheStart : Type 0
ChangesMoveToTheStart = (reading session id : ℕ) (change : Dml) (m : Machine) (s : Stream)
    → transaction_in m.sessions session ≡ None → stream_at m.state.objects id ≡ Some s
    → change_reads m change id ≡ true → is_refusal (step m (changing reading session change)).1 ≡ false
    → stream_at (step m (changing reading session change)).0.state.objects id
    ≡ Some (with_offset (max s.offset (start_at (stamp_of m.state reading) None)) s)

-- what the COMMIT of a transaction consumes of a standard stream on a table is, as rows, what its statements read of it
-- at any moment since the transaction held it, whatever their stamps
abbrev pub CommitsConsumeWhatWasRead : Type 0
CommitsConsumeWhatWasRead = (reading session id stamp : ℕ) (m : Machine) (es : List Event) → SoundMachine m
    → AreApart m.sessions → IsHeldAlong session id m es → (s : Stream) (t : Table)
    → stream_at m.state.objects id ≡ Some s → s.is_append_only ≡ false → base_at m.state.objects s.source ≡ Some t
    → is_refusal (step (after m es) (committing reading session)).1 ≡ false
    → bag_of (map (shown_row s.source) (consumed id (after m es) (committing reading session)))
    ≡ rows_read (at_stamp m stamp) session id

-- a change in a transaction holds each stream that it reads, and what it read of it is read of it again
abbrev pub ChangesHoldWhatTheyRead : Type 0
ChangesHoldWhatTheyRead = (reading session id : ℕ) (change : Dml) (m : Machine) (t : Transaction) (s : Stream)
    → transaction_in m.sessions session ≡ Some t → stream_at m.state.objects id ≡ Some s
    → change_reads m change id ≡ true → is_refusal (step m (changing reading session change)).1 ≡ false
    → (reads (step m (changing reading session change)).0.sessions session id ≡ true)
    × (rows_read (step m (changing reading session change)).0 session id
    ≡ rows_read (at_stamp m (stamp_of m.state reading)) session id)

-- what a change outside of a transaction consumes of a stream that it reads is, as rows, what it reads of it
abbrev pub ChangesConsumeWhatTheyRead : Type 0
ChangesConsumeWhatTheyRead = (reading session id : ℕ) (change : Dml) (m : Machine) (s : Stream)
    → transaction_in m.sessions session ≡ None → stream_at m.state.objects id ≡ Some s
    → change_reads m change id ≡ true → is_refusal (step m (changing reading session change)).1 ≡ false
    → bag_of (map (shown_row s.source) (consumed id m (changing reading session change)))
    ≡ rows_read (at_stamp m (stamp_of m.state reading)) session id

-- what a task's run consumes of a stream that its statement reads is, as rows, what the statement reads of it; it is
-- one of session 0, which no command is one of
abbrev pub RunsConsumeWhatTheyRead : Type 0
RunsConsumeWhatTheyRead = (reading id : ℕ) (m : Machine) (s : Stream) → transaction_in m.sessions 0 ≡ None
    → stream_at m.state.objects id ≡ Some s
    → event_consumes id (at_stamp m (stamp_of m.state reading)) (Tick reading) ≡ true
    → has_succeeded (step m (Tick reading)).1 ≡ true
    → bag_of (map (shown_row s.source) (consumed id m (Tick reading)))
    ≡ rows_read (at_stamp m (stamp_of m.state reading)) 0 id

-- nothing is consumed of a stream but by an accepted COMMIT of a transaction that holds it, by an accepted change
-- outside of a transaction that reads it, and by the run of a task whose statement reads it
abbrev pub NothingElseConsumes : Type 0
NothingElseConsumes = (id : ℕ) (m : Machine) (e : Event) → consumes id m e ≡ false → consumed id m e ≡ []

-- where nothing of it is consumed, the stream is as it was, with its offset
abbrev pub OthersMoveNothing : Type 0
OthersMoveNothing = (m : Machine) (e : Event) (id : ℕ) (s : Stream) → stream_at m.state.objects id ≡ Some s
    → consumes id m e ≡ false → stream_at (step m e).0.state.objects id ≡ Some s

-- a SELECT is no such event, whatever it reads
abbrev pub QueriesMoveNothing : Type 0
QueriesMoveNothing = (reading session : ℕ) (query : Query) (sorts : List Sort) (m : Machine) (id : ℕ) (s : Stream)
    → stream_at m.state.objects id ≡ Some s
    → stream_at (step m (Command reading session (Asked (st.Select query sorts)))).0.state.objects id ≡ Some s

-- nor is a tick at which no task succeeds: a condition moves nothing, and neither does a statement that fails
abbrev pub OtherTicksMoveNothing : Type 0
OtherTicksMoveNothing = (reading id : ℕ) (m : Machine) (s : Stream) → stream_at m.state.objects id ≡ Some s
    → has_succeeded (step m (Tick reading)).1 ≡ false
    → stream_at (step m (Tick reading)).0.state.objects id ≡ Some s

-- what a transaction holds before and behind an event is as it was
abbrev pub HeldStreamsStay : Type 0
HeldStreamsStay = (session id : ℕ) (s : Stream) (m : Machine) (e : Event) → AreApart m.sessions
    → reads m.sessions session id ≡ true → reads (step m e).0.sessions session id ≡ true
    → stream_at m.state.objects id ≡ Some s → stream_at (step m e).0.state.objects id ≡ Some s

-- ---- dynamic tables

-- behind any events the rows of each one that stands for a moment are those of its query over tables alone for that
-- moment: what it reads of dynamic tables, directly or through others, is written out as their queries
abbrev pub TablesStandForOneMoment : Type 0
TablesStandForOneMoment =
    (m : Machine) (es : List Event) → SoundMachine m → (id : ℕ) → IsOfOneMoment (after m es).state.objects id

abbrev pub RefreshesBringToTheStamp : Type 0
RefreshesBringToTheStamp = (m : Machine) (reading session : ℕ) (name : List ℕ) → SoundMachine m
    → is_refusal (step m (refreshing reading session name)).1 ≡ false → (id : ℕ)
    → is_among id (with_upstream m.state.objects (id_refreshed m.state.objects name)) ≡ true
    → StandsAt (stamp_of m.state reading) (step m (refreshing reading session name)).0.state.objects id

-- ---- commits

-- those that the events of a script make over a sound file apply, one after the other
abbrev pub CommitsApply : Type 0
CommitsApply = (file input : List ℕ) (s : Stored) (start : State) (es : List Event) → Keeps file s → Means s start
    → Sound start → IsScript input es
    → Leads s (all_made s (opened start) es) (kept_after_all s (opened start) es)
