-- What a stream shows of its source.
--     shown_net      the net changes, where it isn't of added rows alone and its offset lies in front
--     shown_on       the records on the table that is found, or none
use Rattle.std.proofs.Common.{◌≡◌, ℕ, ◌<◌, false, Option, sym, ap, ◌∙◌, arith}
use Rattle.std.proofs.lemmas.Bool.Decides.{nat_tests}
use Rattle.std.specs.Prelude.{option_map, nat_le}
use Rattle.wh_state.specs.State.{Table, Stream}
use Rattle.wh_state.specs.Stored.{StoredTable, table_meant}
use Rattle.wh_state.specs.Objects.{table_at}
use Rattle.wh_state.proofs.MeaningLaws.{table_at_meant}
use Rattle.wh_net.specs.Net.{net}
use Rattle.wh_net.specs.Stream.{shown, rows_at}
use Rattle.wh_catalog.specs.declared.catalog.Catalog.{Catalog}
use Rattle.wh_catalog.specs.Catalog.{stored_of, state_of}
use Rattle.wh_stream.specs.Shown.{records_on, records_shown}

pub shown_net : (t : Table) (s : Stream) (from to : ℕ) → from ≡ s.offset → from < to → s.is_append_only ≡ false
    → shown t s to ≡ net (rows_at t from) (rows_at t to)
unfolding shown
shown_net t s from to is behind plain =
    let test : nat_le to s.offset ≡ false = grind (arith, nat_tests) in
    rw (test, plain) (ap (λ (offset : ℕ). net (rows_at t offset) (rows_at t to)) (sym is))

pub shown_on : (c : Catalog) (s : Stream) (to id : ℕ) (found : Option StoredTable) → id ≡ s.source
    → found ≡ table_at (stored_of c).objects id
    → records_shown (state_of c).objects s to ≡ records_on (option_map table_meant found) s to
unfolding state_of
shown_on c s to id found is at =
    ap (λ (t : Option Table). records_on t s to)
    (table_at_meant (stored_of c).objects s.source
    ∙ ap (λ (n : ℕ). option_map table_meant (table_at (stored_of c).objects n)) (sym is)
    ∙ ap (option_map table_meant) (sym at))
