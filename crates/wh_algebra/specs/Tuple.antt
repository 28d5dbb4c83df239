-- The rows that operators take and give.
use Rattle.std.specs.Prelude.{List, map}
use Rattle.wh_value.specs.Value.{Row}
use Rattle.wh_algebra.specs.declared.tuple.Tuple.{Tuple}
use Rattle.wh_algebra.specs.declared.tuple.Tuple.TheVariants.{Kept, Made}

abbrev pub row_in : Tuple → Row
row_in (Kept row) = row.now
row_in (Made row) = row

abbrev pub rows_in : List Tuple → List Row
rows_in tuples = map row_in tuples
