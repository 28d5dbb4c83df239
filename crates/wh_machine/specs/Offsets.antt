-- Streams that statements read, and how their offsets move.
--     streams_among      those of some objects that are streams
--     with_streams       ids by rising order, each once
--     offset_moves       the acts by which a commit moves the offsets of streams
--     acts_of_commit     those of a commit of edits that reads streams
use Rattle.std.specs.Prelude.{ℕ, if◌then◌else◌, List, [], ◌∷◌, ◌++◌, Option, Some, None, nat_eq, nat_lt}
use Rattle.std.specs.List.{filter}
use Rattle.wh_state.specs.State.{Object, Stream}
use Rattle.wh_state.specs.Objects.{is_stream, stream_at, is_kind_at}
use Rattle.wh_state.specs.Act.{Act, MovesOffset}

-- in the order of the text
abbrev pub streams_among : List Object → List ℕ → List ℕ
streams_among objects ids = filter (is_kind_at is_stream objects) ids

abbrev pub with_stream : ℕ → List ℕ → List ℕ
with_stream id [] = id ∷ []
with_stream id (other ∷ others) =
    if nat_lt id other then id ∷ other ∷ others
    else if nat_eq id other then other ∷ others
    else other ∷ with_stream id others

abbrev pub with_streams : List ℕ → List ℕ → List ℕ
with_streams [] ids = ids
with_streams (id ∷ more) ids = with_streams more (with_stream id ids)

-- ---- their offsets in the commit that consumes them

-- an offset never falls
abbrev pub offset_move : ℕ → ℕ → Option Stream → List Act
offset_move start id None = []
offset_move start id (Some s) = if nat_lt s.offset start then MovesOffset id start ∷ [] else []

abbrev pub offset_moves : List Object → ℕ → List ℕ → List Act
offset_moves objects start [] = []
offset_moves objects start (id ∷ ids) =
    offset_move start id (stream_at objects id) ++ offset_moves objects start ids

-- of a commit that reads some streams and edits some tables; None where it does neither
abbrev pub acts_of_commit : List ℕ → List Act → List Act → Option (List Act)
acts_of_commit [] moves [] = None
acts_of_commit [] moves (edit ∷ edits) = Some (edit ∷ edits ++ moves)
acts_of_commit (id ∷ ids) moves edits = Some (edits ++ moves)
