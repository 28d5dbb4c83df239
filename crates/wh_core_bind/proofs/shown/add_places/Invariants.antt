use Rattle.std.proofs.Common.{◌≡◌, ◌+◌, ◌++◌, map, take}
use Rattle.wh_value.specs.View.{column_of}
use Rattle.wh_algebra.specs.View.{scalars_of}
use Rattle.wh_naming.specs.Select.{places_from}
use Rattle.wh_core_bind.proofs.shown.add_places.Given as goal

abbrev pub invariant-loop-column : goal.invariant-loop-column
invariant-loop-column l = record {
  places : scalars_of l.scalars.items ≡ scalars_of l.initial.scalars.items
      ++ places_from l.from (map column_of (take l._column-index l.columns));
  next : l.place ≡ l.from + l._column-index;
}
