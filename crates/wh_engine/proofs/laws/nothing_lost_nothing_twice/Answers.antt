use Rattle.wh_machine.proofs.ConsumingLaws as laws
use Rattle.wh_engine.proofs.laws.nothing_lost_nothing_twice.Goals as goal

pub returns : goal.returns
returns c = laws.batches_lead
