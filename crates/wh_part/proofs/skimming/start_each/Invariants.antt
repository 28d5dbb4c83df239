use Rattle.std.proofs.Common.{◌≡◌, ◌-◌, map}
use Rattle.wh_part.specs.Extent.{extent_of}
use Rattle.wh_part.specs.Skim.{starts_at}
use Rattle.wh_part.proofs.Loops.{with_front}
use Rattle.wh_part.proofs.skimming.start_each.Given as goal

-- the values so far, and those that are still read, are those of all the bytes
abbrev pub invariant-loop : goal.invariant-loop
invariant-loop l = with_front (map extent_of l.extents.items) (starts_at (l.width - l.counter) l.rest)
    ≡ starts_at l.width l.bytes
