use Rattle.std.proofs.Common.{◌≡◌, drop}
use Rattle.std.specs.Option.{option_map}
use Rattle.wh_scalar.specs.View.{scalar_of}
use Rattle.wh_algebra.specs.View.{scalars_of}
use Rattle.wh_effect.specs.Effect as meaning
use Rattle.wh_dml.specs.View.{effect_of, targets_of}
use Rattle.wh_dml.specs.Steps.{before}
use Rattle.wh_dml.proofs.update.updated_in.Given as goal

abbrev pub invariant-loop-partition : goal.invariant-loop-partition
invariant-loop-partition l =
    meaning.turned (meaning.updated (scalar_of l.condition) (scalars_of l.parts)) (targets_of l.target)
    ≡ option_map (before (effect_of l.effect)) (meaning.turned
    (meaning.updated (scalar_of l.condition) (scalars_of l.parts)) (targets_of (drop l.partition-index l.target)))
