use Rattle.std.proofs.Common.{◌∙◌}
use Rattle.wh_txn.proofs.RecordLemmas.{parts_of}
use Rattle.wh_txn.proofs.sessions.Sessions.commit_record.Goals as goal

pub returns-clause-gives : goal.returns-clause-gives
returns-clause-gives g c = λ shown t opened. c.commit.ensures.gives shown t
    (parts_of (c.in-Some.ensures ∙ opened) c.start-start.ensures c.in_ok-touched.ensures c.deref.ensures.value)
