use Rattle.std.proofs.Common.{◌≡◌, drop, map}
use Rattle.std.specs.Option.{option_map}
use Rattle.wh_scalar.specs.View.{scalar_of}
use Rattle.wh_algebra.specs.View.{scalars_of}
use Rattle.wh_part.specs.View.{numbered_of}
use Rattle.wh_effect.specs.Effect as meaning
use Rattle.wh_dml.specs.View.{effect_of}
use Rattle.wh_dml.specs.Steps.{before}
use Rattle.wh_dml.proofs.update.update.Given as goal

abbrev pub invariant-loop-entry : goal.invariant-loop-entry
invariant-loop-entry l =
    option_map (before (effect_of l.initial.effect)) (meaning.turned
    (meaning.updated (scalar_of l.condition) (scalars_of l.parts)) (map numbered_of l.rows))
    ≡ option_map (before (effect_of l.effect)) (meaning.turned (meaning.updated (scalar_of l.condition)
    (scalars_of l.parts)) (map numbered_of (drop l.entry-index l.rows)))
