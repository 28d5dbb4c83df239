-- CREATE STREAM, DROP STREAM and SYSTEM$STREAM_HAS_DATA: their outcomes.
--     refusal_by           the first test that a new stream fails, from each
--     within_limits        what a stream that passes all tests keeps
--     defines_stream       the outcome of CREATE STREAM
--     stream_written       what is written for it
--     none_asked, asked_refused, asked_told     SYSTEM$STREAM_HAS_DATA
use Rattle.std.proofs.Common.{◌≡◌, ℕ, ◌+◌, ◌-◌, ◌≤◌, List, [], ◌∷◌, length, Option, Some, None, option_map, Bool, false}
use Rattle.std.proofs.Common.{refl, ap, sym, ◌∙◌}
use Rattle.wh_value.specs.Limit.{bound}
use Rattle.wh_value.specs.declared.limit.Limit.TheVariants as limits
use Rattle.wh_ddl_naming.specs.Streams.{NewStream}
use Rattle.wh_reply.specs.Reply.{Refusal, OverLimit, DdlInTransaction, Locked, CreatedStream, HasData}
use Rattle.wh_state.specs.State.{State, Stream, live_count, stamped}
use Rattle.wh_state.specs.Act.{MakesStream}
use Rattle.wh_state.specs.Objects.{stream_at}
use Rattle.wh_state.specs.Stored.{StoredObject}
use Rattle.wh_state.specs.Commit.{CreatesStream}
use Rattle.wh_state.specs.Written.{written}
use Rattle.wh_net.specs.Stream.{rows_shown, has_rows}
use Rattle.wh_machine.specs.Tests.{refused_if, refused_past, first_of}
use Rattle.wh_machine.specs.Sessions.{Sessions, number_in}
use Rattle.wh_machine.specs.Outcome.{Machine, Refuses, answers, commits, unless}
use Rattle.wh_machine.specs.Reading.{reading_refusal, asked, start_in, has_data}
use Rattle.wh_machine.specs.Definitions.{is_long, count_refusals, holder_of, defines}
use Rattle.wh_machine.specs.Streams.{stream_refusal, create_stream}
use Rattle.wh_decide.specs.Decision.{machine_at}
use Rattle.wh_decide.proofs.DefineLemmas.{tests_flat, counts_none, not_past, defines_by}

-- ---- CREATE STREAM: its tests

pub refusal_by : (s : State) (n : NewStream) (a b : Option Refusal)
    → a ≡ first_of (count_refusals s 0) → b ≡ refused_if (is_long n.name) (OverLimit limits.Name)
    → first_of (a ∷ b ∷ []) ≡ stream_refusal s None n
unfolding stream_refusal
refusal_by s n a b at_a at_b =
    (λ i. first_of (at_a i ∷ at_b i ∷ []))
    ∙ tests_flat
    (refused_past limits.ObjectIds (length s.objects + 1))
    (refused_past limits.Objects (live_count s.objects + 1 - 0))
    (refused_if (is_long n.name) (OverLimit limits.Name) ∷ [])

pub within_limits : (s : State) (n : NewStream) → stream_refusal s None n ≡ None
    → length s.objects + 1 ≤ bound limits.ObjectIds
unfolding stream_refusal
within_limits s n none =
    let h = counts_none
    (refused_past limits.ObjectIds (length s.objects + 1))
    (refused_past limits.Objects (live_count s.objects + 1 - 0))
    (refused_if (is_long n.name) (OverLimit limits.Name) ∷ []) none in
    not_past limits.ObjectIds (length s.objects + 1) h.0

-- ---- CREATE STREAM: its outcome

refusal_stamped : (s : State) (stamp : ℕ) (n : NewStream)
    → stream_refusal (stamped s stamp) None n ≡ stream_refusal s None n
unfolding stream_refusal
refusal_stamped s stamp n = refl

create_is : (m : Machine) (n : NewStream) (wrong : Option Refusal) → stream_refusal m.state None n ≡ wrong
    → create_stream m None n
    ≡ unless wrong (commits m (CreatedStream n.name) (MakesStream n.name n.table n.is_append_only ∷ []))
unfolding create_stream
create_is m n wrong is = ap (λ (found : Option Refusal). unless found
    (commits m (CreatedStream n.name) (MakesStream n.name n.table n.is_append_only ∷ []))) is

pub defines_stream : (s : State) (stamp : ℕ) (sessions : Sessions) (session : ℕ) (n : NewStream)
    (wrong found : Option Refusal) → wrong ≡ stream_refusal s None n
    → found ≡ first_of (option_map DdlInTransaction (number_in sessions session) ∷ wrong
    ∷ option_map Locked (holder_of sessions None) ∷ [])
    → defines (machine_at (stamped s stamp) sessions) session None
    (create_stream (machine_at (stamped s stamp) sessions) None n)
    ≡ unless found (commits (machine_at (stamped s stamp) sessions) (CreatedStream n.name)
    (MakesStream n.name n.table n.is_append_only ∷ []))
defines_stream s stamp sessions session n wrong found test is =
    ap (defines (machine_at (stamped s stamp) sessions) session None)
    (create_is (machine_at (stamped s stamp) sessions) n wrong (refusal_stamped s stamp n ∙ sym test))
    ∙ defines_by (machine_at (stamped s stamp) sessions) session None wrong found (CreatedStream n.name)
    (MakesStream n.name n.table n.is_append_only ∷ []) is

pub stream_written : (stamp : ℕ) (objects : List StoredObject) (name : List ℕ) (source : ℕ) (is_append_only : Bool)
    → CreatesStream (record {
      id = length objects + 1;
      name = name;
      source = source;
      is_append_only = is_append_only;
      offset = stamp;
    }) ∷ [] ≡ written stamp objects (MakesStream name source is_append_only ∷ [])
stream_written stamp objects name source is_append_only = refl

-- ---- SYSTEM$STREAM_HAS_DATA

asked_by : (m : Machine) (session id : ℕ) (found : Option Stream) → stream_at m.state.objects id ≡ found
    → has_data m session None id ≡ asked m session id found
unfolding has_data
asked_by m session id found is = ap (asked m session id) is

pub none_asked : (m : Machine) (session id : ℕ) → stream_at m.state.objects id ≡ None
    → has_data m session None id ≡ answers m (HasData false)
none_asked m session id none = asked_by m session id None none

asked_past : (m : Machine) (session id : ℕ) (s : Stream) (why : Option Refusal)
    → stream_at m.state.objects id ≡ Some s → reading_refusal m.state.objects m.state.last (id ∷ []) ≡ why
    → has_data m session None id
    ≡ unless why (answers m (HasData (has_rows (rows_shown m.state.objects s (start_in m session)))))
asked_past m session id s why there is =
    asked_by m session id (Some s) there
    ∙ ap (λ (found : Option Refusal). unless found
    (answers m (HasData (has_rows (rows_shown m.state.objects s (start_in m session)))))) is

pub asked_refused : (m : Machine) (session id : ℕ) (s : Stream) (why : Refusal)
    → stream_at m.state.objects id ≡ Some s → reading_refusal m.state.objects m.state.last (id ∷ []) ≡ Some why
    → has_data m session None id ≡ Refuses why
asked_refused m session id s why = asked_past m session id s (Some why)

pub asked_told : (m : Machine) (session id : ℕ) (s : Stream)
    → stream_at m.state.objects id ≡ Some s → reading_refusal m.state.objects m.state.last (id ∷ []) ≡ None
    → has_data m session None id
    ≡ answers m (HasData (has_rows (rows_shown m.state.objects s (start_in m session))))
asked_told m session id s = asked_past m session id s None
