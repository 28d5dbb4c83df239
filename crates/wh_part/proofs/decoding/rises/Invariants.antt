use Rattle.std.proofs.Common.{◌≡◌, map, drop}
use Rattle.wh_part.specs.View.{numbered_of}
use Rattle.wh_part.specs.Decoding.{least_after, rises_from}
use Rattle.wh_part.proofs.decoding.rises.Given as goal

-- the rows rise if those that are left do, from the last one on
abbrev pub invariant-loop-numbered : goal.invariant-loop-numbered
invariant-loop-numbered l = rises_from 0 (map numbered_of l.rows)
    ≡ rises_from (least_after l.last) (map numbered_of (drop l.numbered-index l.rows))
