-- What the rows of the code stand for.
use Rattle.std.specs.Prelude.{ℕ}
use Rattle.wh_value.specs.Value.{Row}
use Rattle.wh_part.specs.declared.partition.NumberedRow.{NumberedRow}

abbrev pub numbered_of : NumberedRow → ℕ × Row
numbered_of e = (e.number, e.row)
