use Rattle.wh_regroup.proofs.Sameness.{same_scalars_are_equal}
use Rattle.wh_regroup.proofs.laws.same_scalars_are_equal.Goals as goal

pub returns : goal.returns
returns c = same_scalars_are_equal
