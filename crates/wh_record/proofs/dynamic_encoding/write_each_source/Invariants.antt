use Rattle.std.proofs.Common.{◌≡◌, ◌++◌, take, map}
use Rattle.std.specs.List.{flat_map, AllByRecursion}
use Rattle.wh_state.specs.Spelling.{source_bytes, IsSource}
use Rattle.wh_dynamic.specs.View.{source_of}
use Rattle.wh_record.proofs.dynamic_encoding.write_each_source.Given as goal

-- the sources so far are written, and may be
abbrev pub invariant-loop-source : goal.invariant-loop-source
invariant-loop-source l = record {
  written : l.out ≡ l.fn.out ++ flat_map source_bytes (map source_of (take l.source-index l.sources));
  spelled : AllByRecursion IsSource (map source_of (take l.source-index l.sources));
}
