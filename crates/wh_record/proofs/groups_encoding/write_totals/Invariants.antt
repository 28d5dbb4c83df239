use Rattle.std.proofs.Common.{◌≡◌, ◌++◌, take}
use Rattle.std.specs.List.{flat_map, AllByRecursion}
use Rattle.wh_state.specs.Spelling.{total_bytes, IsTotal}
use Rattle.wh_record.proofs.groups_encoding.write_totals.Given as goal

-- the totals so far are written, and 64 bits hold them
abbrev pub invariant-loop-total : goal.invariant-loop-total
invariant-loop-total l = record {
  written : l.out ≡ l.fn.out ++ flat_map total_bytes (take l.total-index l.totals);
  spelled : AllByRecursion IsTotal (take l.total-index l.totals);
}
