use Rattle.std.proofs.Common.{take, map}
use Rattle.std.specs.List.{AllByRecursion}
use Rattle.wh_part.specs.View.{numbered_of}
use Rattle.wh_record.specs.View.{HasRow}
use Rattle.wh_record.proofs.format.are_rows.Given as goal

-- the rows so far may be written
abbrev pub invariant-loop-numbered : goal.invariant-loop-numbered
invariant-loop-numbered l = AllByRecursion (HasRow l.width) (map numbered_of (take l.numbered-index l.rows))
