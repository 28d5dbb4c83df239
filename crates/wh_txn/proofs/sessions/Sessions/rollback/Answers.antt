use Rattle.std.proofs.Common.{None}
use Rattle.wh_txn.specs.View.{sessions_of}
use Rattle.wh_txn.proofs.SlotLemmas.{with_slot}
use Rattle.wh_txn.proofs.sessions.Sessions.rollback.Goals as goal

pub returns-then-place-len : goal.returns-then-place-len
unfolding sessions_of
returns-then-place-len c = with_slot c.args.self.now.slots.items c.args.session None
