use Rattle.std.proofs.Common.{◌≡◌, map, take}
use Rattle.wh_value.specs.View.{column_of}
use Rattle.wh_naming.specs.Changes.{places_from}
use Rattle.wh_dml_bind.specs.View.{places_of}
use Rattle.wh_dml_bind.proofs.places.all_places.Given as goal

abbrev pub invariant-loop-place : goal.invariant-loop-place
invariant-loop-place l = places_of l.places.items ≡ places_from 0 (map column_of (take l.place l.columns))
