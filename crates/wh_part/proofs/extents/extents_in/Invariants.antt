use Rattle.std.proofs.Common.{◌≡◌, map, drop}
use Rattle.wh_part.specs.View.{numbered_of}
use Rattle.wh_part.specs.Extent.{extent_of, rows_absorbed, extents_of}
use Rattle.wh_part.proofs.extents.extents_in.Given as goal

-- those so far with the rows that are left are those of all the rows
abbrev pub invariant-loop-row : goal.invariant-loop-row
invariant-loop-row l = rows_absorbed (map extent_of l.extents.items) (map numbered_of (drop l.row l.rows))
    ≡ extents_of (map numbered_of l.rows)
