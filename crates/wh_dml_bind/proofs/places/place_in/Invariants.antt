use Rattle.std.proofs.Common.{◌≡◌, ◌++◌, map, drop}
use Rattle.std.specs.Prelude.{option_map}
use Rattle.wh_value.specs.View.{column_of}
use Rattle.wh_naming.specs.Scope.{only, places_among}
use Rattle.wh_naming.specs.Changes.{place_in}
use Rattle.wh_expr_bind.specs.View.{place_of}
use Rattle.wh_dml_bind.proofs.PlaceLemmas.{listed}
use Rattle.wh_dml_bind.proofs.places.place_in.Given as goal

abbrev pub invariant-loop-place : goal.invariant-loop-place
invariant-loop-place l =
    only (listed (option_map place_of l.found) ++ places_among l.name l.place (map column_of (drop l.place l.columns)))
    ≡ place_in (map column_of l.columns) l.name
