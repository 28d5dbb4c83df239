use Rattle.std.proofs.Common.{◌≡◌, drop}
use Rattle.wh_algebra.specs.View.{scalars_of}
use Rattle.wh_dml_bind.specs.View.{places_of}
use Rattle.wh_dml_bind.specs.Steps.{given}
use Rattle.wh_dml_bind.proofs.rows.given.Given as goal

abbrev pub invariant-loop-index : goal.invariant-loop-index
invariant-loop-index l = given l.place (places_of (drop l.index l.places)) (scalars_of (drop l.index l.scalars))
    ≡ given l.place (places_of l.places) (scalars_of l.scalars)
