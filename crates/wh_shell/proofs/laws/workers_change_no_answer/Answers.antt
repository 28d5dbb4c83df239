use Rattle.wh_shell.proofs.WorkerLaws.{promised_alike, written_alike}
use Rattle.wh_shell.proofs.laws.workers_change_no_answer.Goals as goal

pub returns-clause-promises : goal.returns-clause-promises
returns-clause-promises g c = promised_alike g.D.Disk g.S.Source g.K.Sink

pub returns-clause-writes : goal.returns-clause-writes
returns-clause-writes g c = written_alike g.D.Disk g.S.Source g.K.Sink
