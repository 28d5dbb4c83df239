use Rattle.std.proofs.Common.{◌∙◌}
use Rattle.wh_dml.specs.View.{effect_of}
use Rattle.wh_version.specs.Edits.{edits_in}
use Rattle.wh_machine.specs.Transaction as machine
use Rattle.wh_txn.specs.View.{transaction_of}
use Rattle.wh_txn.proofs.TableLemmas.{staged_is}
use Rattle.wh_txn.proofs.lone.alone.Goals as goal

pub returns : goal.returns
returns c =
    let e = effect_of c.args.effect in
    c.in_ok-stage.ensures.ok
    ∙ staged_is (transaction_of c.begun-transaction.result) c.args.id c.args.streams.now c.next_row-next.result
    (edits_in c.in_ok-later.later) c.is_some_counted-touches.result e c.in_ok-later.ensures
    c.is_some_counted-touches.ensures
    ∙ (λ i. machine.staged (c.begun-transaction.ensures i) c.args.id c.args.streams.now
    (c.next_row-next.ensures.number i) e)
