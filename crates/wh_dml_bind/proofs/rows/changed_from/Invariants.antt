use Rattle.std.proofs.Common.{◌≡◌, map, take}
use Rattle.wh_value.specs.View.{column_of}
use Rattle.wh_algebra.specs.View.{scalars_of}
use Rattle.wh_naming.specs.Changes.{changed_from}
use Rattle.wh_dml_bind.specs.View.{places_of}
use Rattle.wh_dml_bind.proofs.rows.changed_from.Given as goal

abbrev pub invariant-loop-place : goal.invariant-loop-place
invariant-loop-place l = scalars_of l.row.items
    ≡ changed_from 0 (map column_of (take l.place l.columns)) (places_of l.places) (scalars_of l.scalars)
