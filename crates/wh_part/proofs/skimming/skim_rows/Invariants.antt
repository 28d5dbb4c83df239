use Rattle.std.proofs.Common.{◌≡◌, ◌-◌, ◌+◌, map}
use Rattle.wh_part.specs.Extent.{extent_of}
use Rattle.wh_part.specs.Skim.{skims_at}
use Rattle.wh_part.proofs.skimming.skim_rows.Given as goal

-- the rows that are still read, behind those so far, are those of all the bytes
abbrev pub invariant-loop : goal.invariant-loop
invariant-loop l = skims_at (l.count - l.counter) (l.last + 1) (map extent_of l.extents) l.rest
    ≡ skims_at l.count (l.first + 1) (map extent_of l.initial.extents) l.bytes
