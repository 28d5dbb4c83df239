use Rattle.std.proofs.Common.{◌≡◌, take, map, ◌++◌}
use Rattle.wh_value.specs.View.{column_of}
use Rattle.wh_naming.specs.Scope.{places_among}
use Rattle.wh_expr_bind.specs.View.{place_of}
use Rattle.wh_expr_bind.proofs.columns.add_places.Given as goal

abbrev pub invariant-loop-index : goal.invariant-loop-index
invariant-loop-index l = map place_of l.places.items
    ≡ map place_of l.initial.places.items ++ places_among l.name l.from (map column_of (take l.index l.columns))
