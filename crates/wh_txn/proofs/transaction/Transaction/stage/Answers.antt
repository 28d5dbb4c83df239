use Rattle.std.proofs.Common.{ap, ◌∙◌}
use Rattle.wh_machine.specs.Offsets.{with_streams}
use Rattle.wh_machine.specs.Transaction as machine
use Rattle.wh_version.specs.Edits.{edits_in}
use Rattle.wh_txn.specs.View.{transaction_of, with_edits}
use Rattle.wh_txn.proofs.transaction.Transaction.stage.Goals as goal

pub returns-clause-ok : goal.returns-clause-ok
returns-clause-ok c =
    let edited = with_edits c.args.next_row (edits_in c.args.later) c.args.touches c.args.id
    (transaction_of c.args.self.now) in
    ap (λ (t : machine.Transaction). record t { streams = c.in_ok-streams.streams.items }) c.in_ok-edit.ensures.ok
    ∙ ap (λ ids. record edited { streams = ids })
    (c.in_ok-streams.ensures ∙ ap (with_streams c.args.streams.now) c.deref.ensures.value)
