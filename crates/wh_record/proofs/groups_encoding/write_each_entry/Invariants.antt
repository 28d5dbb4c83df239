use Rattle.std.proofs.Common.{◌≡◌, ◌++◌, take}
use Rattle.std.specs.List.{flat_map, AllByRecursion}
use Rattle.wh_state.specs.Spelling.{entry_bytes, IsGroupEntry}
use Rattle.wh_record.proofs.groups_encoding.write_each_entry.Given as goal

-- the entries so far are written, and within the format
abbrev pub invariant-loop-entry : goal.invariant-loop-entry
invariant-loop-entry l = record {
  written : l.out ≡ l.fn.out ++ flat_map (entry_bytes l.calls) (take l.entry-index l.entries);
  spelled : AllByRecursion (IsGroupEntry l.keys l.calls) (take l.entry-index l.entries);
}
