use Rattle.std.proofs.Common.{arith}
use Rattle.std.proofs.lemmas.Grind.{common_steps}
use Rattle.wh_catalog.proofs.catalog.count_live.Goals as goal

pub returns : goal.returns
returns c = grind (arith, common_steps)
