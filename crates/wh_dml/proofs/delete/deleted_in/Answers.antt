use Rattle.std.proofs.Common.{◌∙◌, map}
use Rattle.wh_scalar.specs.View.{scalar_of}
use Rattle.wh_part.specs.View.{numbered_of}
use Rattle.wh_effect.specs.Effect as meaning
use Rattle.wh_dml.specs.View.{effect_of}
use Rattle.wh_dml.proofs.EffectLaws.{partition_done, all_done}
use Rattle.wh_dml.proofs.delete.deleted_in.Goals as goal

pub loop-partition-preserved : goal.loop-partition-preserved
loop-partition-preserved c =
    c.loop-partition.invariant
    ∙ partition_done (meaning.deleted (scalar_of c.args.condition.now)) c.args.target.now
    c.loop-partition.partition-index c.partition-item.result (map numbered_of c.rows.result.now)
    (effect_of c.loop-partition.effect) (effect_of c.delete.new.effect) c.loop-partition-test.true c.partition-item.is
    c.rows.ensures.rows c.in_ok-delete.ensures

pub returns : goal.returns
returns c =
    c.loop-partition.invariant
    ∙ all_done (meaning.deleted (scalar_of c.args.condition.now)) c.args.target.now c.loop-partition.partition-index
    (effect_of c.loop-partition.effect) c.loop-partition-test.false
