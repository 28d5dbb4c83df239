use Rattle.wh_machine.proofs.StepLaws as laws
use Rattle.wh_engine.proofs.laws.refusals_change_nothing.Goals as goal

pub returns : goal.returns
returns c = laws.refusals_change_nothing
