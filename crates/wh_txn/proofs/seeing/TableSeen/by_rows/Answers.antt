use Rattle.std.proofs.lemmas.Result.{IfOk-weaker}
use Rattle.wh_txn.proofs.ShownLemmas.{holds_here}
use Rattle.wh_txn.proofs.seeing.TableSeen.by_rows.Goals as goal

pub returns-clause-rows : goal.returns-clause-rows
returns-clause-rows c = IfOk-weaker c.by_rows.result _ _ (λ found are. λ rows holds.
    are rows (holds_here c.args.self.now _ _ c.deref.ensures.value c.deref-2.ensures.value rows holds))
    c.by_rows.ensures.rows
