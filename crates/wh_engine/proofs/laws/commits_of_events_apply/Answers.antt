use Rattle.wh_machine.proofs.LeadsLaws.{commits_apply}
use Rattle.wh_engine.proofs.laws.commits_of_events_apply.Goals as goal

pub returns : goal.returns
returns c = commits_apply
