use Rattle.std.proofs.Common.{arith}
use Rattle.std.proofs.lemmas.Grind.{common_steps}
use Rattle.wh_dml_bind.proofs.ValueLemmas.{outputs_turn}
use Rattle.wh_dml_bind.proofs.insert.output_scalars.Goals as goal

pub loop-place-preserved : goal.loop-place-preserved
loop-place-preserved c =
    let turn = outputs_turn c.args.outputs.now c.loop-place.place c.loop-place-test.true in
    grind (arith, common_steps)
