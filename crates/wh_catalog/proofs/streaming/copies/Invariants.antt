use Rattle.std.proofs.Common.{◌≡◌, map, take}
use Rattle.wh_value.specs.View.{column_of}
use Rattle.wh_catalog.proofs.streaming.copies.Given as goal

abbrev pub invariant-loop-column : goal.invariant-loop-column
invariant-loop-column l = map column_of l.copies.items ≡ map column_of (take l.column-index l.columns)
