use Rattle.wh_machine.proofs.HeldLaws as laws
use Rattle.wh_engine.proofs.laws.held_streams_are_read_again.Goals as goal

pub returns : goal.returns
returns c = laws.read_again
