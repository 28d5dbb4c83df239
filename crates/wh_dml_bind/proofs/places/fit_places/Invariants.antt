use Rattle.std.proofs.Common.{◌≡◌, map, length, drop}
use Rattle.wh_naming.specs.Changes.{fit_places}
use Rattle.wh_expr_bind.specs.View.{type_of_option}
use Rattle.wh_dml_bind.specs.View.{places_of}
use Rattle.wh_dml_bind.proofs.places.fit_places.Given as goal

abbrev pub invariant-loop-index : goal.invariant-loop-index
invariant-loop-index l = (fit_places (places_of (drop l.index l.places)) (map type_of_option (drop l.index l.types))
    ≡ fit_places (places_of l.places) (map type_of_option l.types))
    × (length l.places ≡ length l.types)
