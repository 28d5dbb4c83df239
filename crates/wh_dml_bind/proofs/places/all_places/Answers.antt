use Rattle.std.proofs.Common.{arith}
use Rattle.std.proofs.lemmas.Grind.{common_steps}
use Rattle.wh_dml_bind.proofs.PlaceLemmas.{places_turn}
use Rattle.wh_dml_bind.proofs.places.all_places.Goals as goal

pub loop-place-preserved : goal.loop-place-preserved
loop-place-preserved c =
    let turn = places_turn c.args.columns.now c.loop-place.place c.index-columns-place.result c.loop-place-test.true
    c.index-columns-place.is in
    grind (arith, common_steps)
