use Rattle.std.proofs.Common.{◌≡◌, ◌++◌, take, map}
use Rattle.std.specs.List.{flat_map, AllByRecursion}
use Rattle.wh_part.specs.Shape.{HasWideNumber}
use Rattle.wh_frame.specs.Spelling.{row_bytes}
use Rattle.wh_part.specs.View.{numbered_of}
use Rattle.wh_part.proofs.encoding.write_rows.Given as goal

-- the rows so far are written, and their numbers are of 64 bits
abbrev pub invariant-loop-numbered : goal.invariant-loop-numbered
invariant-loop-numbered l = record {
  written : l.out ≡ l.fn.out ++ flat_map row_bytes (map numbered_of (take l.numbered-index l.rows));
  wide : AllByRecursion HasWideNumber (map numbered_of (take l.numbered-index l.rows));
}
