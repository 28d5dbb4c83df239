use Rattle.std.proofs.Common.{rules}
use Rattle.wh_world.proofs.Imaged.{part_torn}
use Rattle.wh_world.proofs.imaging.patch.Goals as goal

pub returns-clause-torn : goal.returns-clause-torn
returns-clause-torn c = search (rules, part_torn)
