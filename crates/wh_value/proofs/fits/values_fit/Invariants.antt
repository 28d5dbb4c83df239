use Rattle.std.proofs.Common.{◌≡◌, drop, map, length}
use Rattle.wh_value.specs.Fits.{row_fits}
use Rattle.wh_value.specs.View.{column_of, value_of}
use Rattle.wh_value.proofs.fits.values_fit.Given as goal

abbrev pub invariant-loop-place : goal.invariant-loop-place
invariant-loop-place l = (row_fits (map column_of (drop l.place l.columns)) (map value_of (drop l.place l.values))
    ≡ row_fits (map column_of l.columns) (map value_of l.values))
    × (length l.columns ≡ length l.values)
