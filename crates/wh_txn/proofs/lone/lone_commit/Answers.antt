use Rattle.std.proofs.Common.{Some, ap}
use Rattle.wh_txn.proofs.RecordLemmas.{parts_of}
use Rattle.wh_txn.proofs.lone.lone_commit.Goals as goal

pub returns-clause-gives : goal.returns-clause-gives
returns-clause-gives g c = λ shown. c.commit.ensures.gives shown _
    (parts_of (ap Some c.in_ok-transaction.ensures) c.start-start.ensures c.in_ok-touched.ensures
    c.deref.ensures.value)
