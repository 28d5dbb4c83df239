-- A stream on a table: the changes behind its offset.
--     shown                what a stream shows up to a stamp
--     shown_row            a record as a row, with the three columns that streams have more
--     rows_shown           the rows of a stream among objects
--     is_gone              a stream whose source was dropped or replaced
--     stale_at             an offset that lies too far back, with the last stamp at which it is read
use Rattle.std.specs.Prelude.{ℕ, ◌+◌, ◌*◌, max, Bool, true, false, not, if◌then◌else◌, List, [], ◌∷◌, ◌++◌, map, Option}
use Rattle.std.specs.Prelude.{Some, None, codes, decimal, nat_le, nat_lt}
use Rattle.wh_value.specs.Value.{Truth, Text, Row}
use Rattle.wh_value.specs.Limit.{days_of_changes}
pub use Rattle.wh_state.specs.State.{rows_at}
use Rattle.wh_state.specs.State.{Table, Stream, Object}
use Rattle.wh_state.specs.Objects.{table_at, stream_at, is_live_at}
use Rattle.wh_net.specs.Net.{RowAction, Delete, Insert, RowChange, net, appended}

-- ---- what it shows

abbrev pub records_between : Bool → Table → ℕ → ℕ → List RowChange
records_between false t from to = net (rows_at t from) (rows_at t to)
records_between true t from to = appended t.versions from to

-- nothing where the offset isn't before the stamp
unfoldable pub shown : Table → Stream → ℕ → List RowChange
shown t s to = if nat_le to s.offset then [] else records_between s.is_append_only t s.offset to

-- ---- its rows: those of the source with three columns behind

abbrev pub action_text : RowAction → List ℕ
action_text Delete = codes "DELETE"
action_text Insert = codes "INSERT"

-- the source's id and the row's number
abbrev pub row_id_text : ℕ → ℕ → List ℕ
row_id_text source number = decimal source ++ codes ":" ++ decimal number

abbrev pub shown_row : ℕ → RowChange → Row
shown_row source r =
    r.row ++ Text (action_text r.action) ∷ Truth r.is_update ∷ Text (row_id_text source r.number) ∷ []

abbrev pub rows_on : Option Table → Stream → ℕ → List Row
rows_on None s to = []
rows_on (Some t) s to = map (shown_row s.source) (shown t s to)

abbrev pub rows_shown : List Object → Stream → ℕ → List Row
rows_shown objects s to = rows_on (table_at objects s.source) s to

abbrev pub has_rows : List Row → Bool
has_rows [] = false
has_rows (row ∷ rows) = true

-- ---- when it can't be read

-- whether it is a stream, and its source was dropped or replaced
abbrev pub is_gone : List Object → ℕ → Bool
is_gone objects id = without_source (stream_at objects id)
  where
    without_source : Option Stream → Bool
    without_source None = false
    without_source (Some s) = not (is_live_at objects s.source)

abbrev pub milliseconds_of_a_day : ℕ
milliseconds_of_a_day = 86400000

-- the last stamp at which it is read, by the retention of its table
abbrev pub read_until : ℕ → ℕ → ℕ
read_until retention offset = offset + max retention days_of_changes * milliseconds_of_a_day

-- an offset that lies too far back at a stamp, and the last one at which it was read
abbrev pub stale_by : ℕ → ℕ → ℕ → Option (ℕ × ℕ)
stale_by retention offset stamp =
    if nat_lt (read_until retention offset) stamp then Some (offset, read_until retention offset) else None

abbrev pub stale_on : ℕ → Stream → Option Table → Option (ℕ × ℕ)
stale_on stamp s None = None
stale_on stamp s (Some t) = stale_by t.retention s.offset stamp

-- of the stream of an id
abbrev pub stale_at : List Object → ℕ → ℕ → Option (ℕ × ℕ)
stale_at objects stamp id = of_stream (stream_at objects id)
  where
    of_stream : Option Stream → Option (ℕ × ℕ)
    of_stream None = None
    of_stream (Some s) = stale_on stamp s (table_at objects s.source)
