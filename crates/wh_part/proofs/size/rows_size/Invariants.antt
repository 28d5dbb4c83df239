use Rattle.std.proofs.Common.{◌≡◌, ◌+◌, ◌<◌, ◌^◌, length, drop, map}
use Rattle.std.specs.List.{flat_map}
use Rattle.wh_frame.specs.Spelling.{row_bytes}
use Rattle.wh_part.specs.View.{numbered_of}
use Rattle.wh_part.proofs.size.rows_size.Given as goal

-- the bytes so far, and those of the rows that are left, are all of them
abbrev pub invariant-loop-numbered : goal.invariant-loop-numbered
invariant-loop-numbered l = record {
  fits : l.size < 2 ^ 64;
  counted : l.size + length (flat_map row_bytes (map numbered_of (drop l.numbered-index l.rows)))
      ≡ l.before + length (flat_map row_bytes (map numbered_of l.rows));
}
