use Rattle.std.proofs.Common.{◌≡◌, ◌++◌, take, map}
use Rattle.std.specs.List.{flat_map, AllByRecursion}
use Rattle.wh_state.specs.Spelling.{change_bytes, IsChange}
use Rattle.wh_record.specs.View.{written_of}
use Rattle.wh_record.proofs.encoding.write_each_change.Given as goal

-- the changes so far are written, and may be
abbrev pub invariant-loop-change : goal.invariant-loop-change
invariant-loop-change l = record {
  written : l.out ≡ l.fn.out ++ flat_map change_bytes (map written_of (take l.change-index l.changes));
  spelled : AllByRecursion IsChange (map written_of (take l.change-index l.changes));
}
