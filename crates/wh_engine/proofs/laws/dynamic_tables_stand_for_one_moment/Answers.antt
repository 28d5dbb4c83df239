use Rattle.wh_machine.proofs.OneMoment.{moment_after}
use Rattle.wh_engine.proofs.laws.dynamic_tables_stand_for_one_moment.Goals as goal

pub returns : goal.returns
returns c = moment_after
