use Rattle.std.proofs.Common.{Some, ap, ◌∙◌}
use Rattle.wh_machine.specs.Sessions.{with_transaction}
use Rattle.wh_txn.specs.View.{sessions_of}
use Rattle.wh_txn.proofs.SlotLemmas.{with_slot}
use Rattle.wh_txn.proofs.sessions.Sessions.begin.Goals as goal

pub returns-then-place-len : goal.returns-then-place-len
unfolding sessions_of
returns-then-place-len c =
    with_slot c.args.self.now.slots.items c.args.session (Some c.begun.result)
    ∙ ap (with_transaction (sessions_of c.args.self.now) c.args.session) c.begun.ensures
