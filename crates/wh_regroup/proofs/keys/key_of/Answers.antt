use Rattle.std.proofs.Common.{◌∙◌}
use Rattle.wh_naming.specs.Grouping.{is_same}
use Rattle.wh_scalar.specs.View.{scalar_of}
use Rattle.wh_regroup.proofs.KeyLemmas.{position-map}
use Rattle.wh_regroup.proofs.keys.key_of.Goals as goal

pub returns : goal.returns
returns c = c.first_same.ensures ∙ position-map scalar_of (is_same (scalar_of c.args.part.now)) c.args.keys.now
