use Rattle.std.proofs.Common.{◌≡◌, ◌≤◌, ◌++◌, replicate}
use Rattle.std.specs.List.{flat_map}
use Rattle.wh_maintenance.specs.Standing.{nothing_yet}
use Rattle.wh_state.specs.Spelling.{total_bytes}
use Rattle.wh_record.proofs.groups_encoding.write_nothing.Given as goal

-- so many totals are written
abbrev pub invariant-loop : goal.invariant-loop
invariant-loop l = record {
  within : l.counter ≤ l.calls;
  written : l.out ≡ l.fn.out ++ flat_map total_bytes (replicate l.counter nothing_yet);
}
