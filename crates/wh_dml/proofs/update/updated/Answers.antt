use Rattle.std.proofs.Common.{subst}
use Rattle.wh_scalar.specs.View.{scalar_of}
use Rattle.wh_algebra.specs.View.{scalars_of}
use Rattle.wh_effect.specs.Effect as meaning
use Rattle.wh_dml.specs.View.{effect_of}
use Rattle.wh_dml.specs.Pieces.{ShowsOn}
use Rattle.wh_dml.proofs.update.updated.Goals as goal

pub returns : goal.returns
returns g c =
    let meant = meaning.updated (scalar_of c.args.condition.now) (scalars_of c.args.parts.now) in
    c.turned.ensures meant (λ piece answer at. subst (λ p. ShowsOn effect_of (meaning.turned meant) p answer) at.shows at.says.met)
