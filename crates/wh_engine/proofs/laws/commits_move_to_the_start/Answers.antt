use Rattle.wh_machine.proofs.ReadLaws.{commit_consumes}
use Rattle.wh_machine.proofs.BatchLaws.{change_consumes}
use Rattle.wh_engine.proofs.laws.commits_move_to_the_start.Goals as goal

pub returns : goal.returns
returns c = record { commits = commit_consumes; changes = change_consumes }
