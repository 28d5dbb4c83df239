-- What the transactions of the code stand for.
--     transaction_of     a transaction of the machine
--     sessions_of        those of the sessions
--     with_edits         a transaction with later edits of a table
--     with_reads         a transaction that reads some streams more
use Rattle.std.specs.Prelude.{ℕ, Bool, ◌||◌, List, map, option_map}
use Rattle.std.specs.FinMap.{FinMap, from_entries, get, insert}
use Rattle.std.specs.Ordering.{nat_cmp}
use Rattle.wh_state.specs.Edits.{Edits, later_edits}
use Rattle.wh_machine.specs.Offsets.{with_streams}
use Rattle.wh_version.specs.Edits.{edits_in}
use Rattle.wh_machine.specs.Transaction as machine
use Rattle.wh_machine.specs.Sessions as machine_sessions
use Rattle.wh_txn.specs.declared.transaction.Staged.{Staged}
use Rattle.wh_txn.specs.declared.transaction.Transaction.{Transaction}
use Rattle.wh_txn.specs.declared.sessions.Sessions.{Sessions}

abbrev pub staged_of : Staged → machine.Staged
staged_of s = record { edits = edits_in s.edits; is_touched = s.is_touched }

abbrev pub entry_of : ℕ × Staged → ℕ × machine.Staged
entry_of entry = (entry.0, staged_of entry.1)

abbrev pub tables_of : List (ℕ × Staged) → FinMap nat_cmp machine.Staged
tables_of entries = from_entries (map entry_of entries)

abbrev pub transaction_of : Transaction → machine.Transaction
transaction_of t = record {
  number = t.number;
  tables = tables_of t.tables.entries;
  streams = t.streams.items;
}

unfoldable pub sessions_of : Sessions → machine_sessions.Sessions
sessions_of s = map (option_map transaction_of) s.slots.items

-- ---- edits on top of those that are staged

abbrev pub amended : ℕ → Edits → Bool → machine.Staged → machine.Staged
amended next_row later touches s = record {
  edits = later_edits next_row s.edits later;
  is_touched = s.is_touched || touches;
}

abbrev pub with_edits : ℕ → Edits → Bool → ℕ → machine.Transaction → machine.Transaction
with_edits next_row later touches id t =
    record t { tables = insert t.tables id (amended next_row later touches (machine.staged_in (get t.tables id))) }

abbrev pub with_reads : List ℕ → machine.Transaction → machine.Transaction
with_reads streams t = record t { streams = with_streams streams t.streams }
