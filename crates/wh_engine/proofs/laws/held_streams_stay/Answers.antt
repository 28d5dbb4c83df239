use Rattle.wh_machine.proofs.HeldLaws.{held_step}
use Rattle.wh_engine.proofs.laws.held_streams_stay.Goals as goal

pub returns : goal.returns
returns c = held_step
