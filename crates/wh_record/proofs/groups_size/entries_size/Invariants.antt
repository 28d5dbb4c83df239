use Rattle.std.proofs.Common.{◌≡◌, ◌+◌, length, drop}
use Rattle.std.specs.List.{flat_map}
use Rattle.wh_state.specs.Spelling.{entry_bytes}
use Rattle.wh_record.proofs.groups_size.entries_size.Given as goal

-- the bytes so far, and those of the entries that are left, are all of them
abbrev pub invariant-loop-entry : goal.invariant-loop-entry
invariant-loop-entry l = l.size + length (flat_map (entry_bytes l.calls) (drop l.entry-index l.entries))
    ≡ l.before + length (flat_map (entry_bytes l.calls) l.entries)
