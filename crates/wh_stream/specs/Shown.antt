-- The records of a stream among objects.
--     records_on         on a table, if there is one
--     records_shown      on the table that is the stream's source
use Rattle.std.specs.Prelude.{ℕ, List, [], Option, Some, None}
use Rattle.wh_state.specs.State.{Table, Stream, Object}
use Rattle.wh_state.specs.Objects.{table_at}
use Rattle.wh_net.specs.Net.{RowChange}
use Rattle.wh_net.specs.Stream.{shown}

abbrev pub records_on : Option Table → Stream → ℕ → List RowChange
records_on None s to = []
records_on (Some t) s to = shown t s to

abbrev pub records_shown : List Object → Stream → ℕ → List RowChange
records_shown objects s to = records_on (table_at objects s.source) s to
