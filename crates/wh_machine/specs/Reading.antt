-- What the statements of a session read.
--     objects_seen        the objects as the session's transaction sees them
--     start_in            the stamp that its streams are read up to
--     rows_read           the rows of an object; instance_read, those of the sources of a statement
--     reading_refusal     the first test that reading sources fails
--     has_data            SYSTEM$STREAM_HAS_DATA
use Rattle.std.specs.Prelude.{ℕ, Bool, false, ◌&&◌, min, List, [], ◌∷◌, ◌++◌, length, map, Option, Some, None}
use Rattle.std.specs.Prelude.{option_map}
use Rattle.std.specs.Prelude.{is_some, nat_eq}
use Rattle.std.specs.List.{filter}
use Rattle.std.specs.Option.{option_map_or}
use Rattle.wh_meaning.specs.Bag.{Bag, no_rows, bag_of}
use Rattle.wh_meaning.specs.Query.{Instance}
use Rattle.wh_reply.specs.Reply.{Refusal, NotInitialized, SourceGone, StaleStream, HasData}
use Rattle.wh_state.specs.State.{Kind, Object, Table, Stream, stream_in, at_id}
use Rattle.wh_state.specs.Objects.{table_at, stream_at, dynamic_at, name_at, is_live_at}
use Rattle.wh_net.specs.Stream.{rows_shown, has_rows, is_gone, stale_at}
use Rattle.wh_machine.specs.Tests.{refused_if, first_of}
use Rattle.wh_machine.specs.Transaction.{seen, start_at}
use Rattle.wh_machine.specs.Sessions.{transaction_in}
use Rattle.wh_machine.specs.Outcome.{Machine, Outcome, answers, unless}
use Rattle.wh_machine.specs.Queries.{table_bag}

abbrev pub objects_seen : Machine → ℕ → List Object
objects_seen m session = (seen m.state (transaction_in m.sessions session)).objects

abbrev pub start_in : Machine → ℕ → ℕ
start_in m session = start_at m.state.last (transaction_in m.sessions session)

-- ---- rows: of a stream by its committed offset and versions, of a table with the transaction's own edits

abbrev pub kind_rows : List Object → List Object → ℕ → ℕ → Kind → Bag
kind_rows committed seen start id k =
    option_map_or (λ s. bag_of (rows_shown committed s start)) (stream_in k) (table_bag (table_at seen id))

abbrev pub object_rows : List Object → List Object → ℕ → ℕ → Option Object → Bag
object_rows committed seen start id None = no_rows
object_rows committed seen start id (Some o) = kind_rows committed seen start id o.kind

abbrev pub rows_read : Machine → ℕ → ℕ → Bag
rows_read m session id =
    object_rows m.state.objects (objects_seen m session) (start_in m session) id (at_id m.state.objects id)

abbrev pub instance_read : Machine → ℕ → List ℕ → Instance
instance_read m session ids = map (rows_read m session) ids

-- ---- streams that can't be read

abbrev pub least_from : ℕ → List ℕ → ℕ
least_from id [] = id
least_from id (other ∷ others) = least_from (min id other) others

abbrev pub least : List ℕ → Option ℕ
least [] = None
least (id ∷ ids) = Some (least_from id ids)

-- of all that are read, the stream of the least id whose source was dropped or replaced
abbrev pub gone_refusal : List Object → List ℕ → Option Refusal
gone_refusal objects ids = option_map (λ id. SourceGone (name_at objects id)) (least (filter (is_gone objects) ids))

abbrev pub stale_refusal : List Object → ℕ → ℕ → Option Refusal
stale_refusal objects stamp id = option_map (λ stale. StaleStream stale.0 stale.1) (stale_at objects stamp id)

-- a live dynamic table that has no version yet
abbrev pub has_no_version : Option Table → Bool
has_no_version None = false
has_no_version (Some t) = nat_eq (length t.versions) 0

abbrev pub is_uninitialized : List Object → ℕ → Bool
is_uninitialized objects id =
    is_some (dynamic_at objects id) && is_live_at objects id && has_no_version (table_at objects id)

abbrev pub uninitialized_refusal : List Object → ℕ → Option Refusal
uninitialized_refusal objects id = refused_if (is_uninitialized objects id) (NotInitialized (name_at objects id))

-- that every dynamic table has rows first, in the order of the text, then that every source is there, and then that no
-- stream lies too far back, in the order of the text
unfoldable pub reading_refusal : List Object → ℕ → List ℕ → Option Refusal
reading_refusal objects stamp ids = first_of (map (uninitialized_refusal objects) ids
    ++ gone_refusal objects ids ∷ map (stale_refusal objects stamp) ids)

-- ---- SYSTEM$STREAM_HAS_DATA

abbrev pub asked : Machine → ℕ → ℕ → Option Stream → Outcome
asked m session id None = answers m (HasData false)
asked m session id (Some s) = unless (reading_refusal m.state.objects m.state.last (id ∷ []))
    (answers m (HasData (has_rows (rows_shown m.state.objects s (start_in m session)))))

-- it reads as a query would, and moves nothing
unfoldable pub has_data : Machine → ℕ → Option Refusal → ℕ → Outcome
has_data m session wrong id = unless wrong (asked m session id (stream_at m.state.objects id))
