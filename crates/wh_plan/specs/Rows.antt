-- Rows that were found, as a list.
use Rattle.std.specs.Prelude.{List, Option, option_map, Vec}
use Rattle.std.specs.declared.alloc.Global.{Global}
use Rattle.wh_value.specs.Value.{Row}

abbrev pub rows_found : Option (Vec Row Global) → Option (List Row)
rows_found found = option_map (λ made. made.items) found
