use Rattle.std.proofs.Common.{arith}
use Rattle.std.proofs.lemmas.Grind.{common_steps}
use Rattle.wh_algebra.specs.View.{scalars_of}
use Rattle.wh_dml_bind.specs.View.{places_of}
use Rattle.wh_dml_bind.proofs.RowLemmas.{changed_turn}
use Rattle.wh_dml_bind.proofs.rows.changed_from.Goals as goal

pub loop-place-preserved : goal.loop-place-preserved
loop-place-preserved c =
    let turn = changed_turn c.args.columns.now (places_of c.args.places.now)
    (scalars_of c.args.scalars.now) c.loop-place.place c.loop-place-test.true in
    grind (arith, common_steps)
