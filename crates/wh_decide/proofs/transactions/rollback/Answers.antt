use Rattle.std.proofs.Common.{None, is_some, refl, ap}
use Rattle.wh_reply.specs.Reply.{RolledBack}
use Rattle.wh_reply.specs.declared.reply.Reply.TheVariants as told
use Rattle.wh_catalog.specs.Catalog.{stored_of}
use Rattle.wh_machine.specs.Sessions.{transaction_in}
use Rattle.wh_txn.specs.View.{sessions_of}
use Rattle.wh_decide.specs.Sight.{machine_in}
use Rattle.wh_decide.proofs.OutcomeLemmas.{ends}
use Rattle.wh_decide.proofs.TransactionLemmas.{is_closed, is_open, rollback_closed, rollback_open}
use Rattle.wh_decide.proofs.transactions.rollback.Goals as goal

pub returns-in-Some : goal.returns-in-Some
returns-in-Some c =
    let sight = c.args.sight.now in
    let sessions = sessions_of sight.sessions.now in
    let t =
    is_open (transaction_in sessions sight.session) c.number.result c.number.ensures (ap is_some c.in-Some.is) in
    ends (stored_of sight.catalog.now) sessions sight.stamp sight.session told.RolledBack None _ RolledBack None refl
    refl (rollback_open (machine_in sight) sight.session t.0 t.1)

pub returns-in-None : goal.returns-in-None
returns-in-None c =
    let sight = c.args.sight.now in
    rollback_closed (machine_in sight) sight.session
    (is_closed (transaction_in (sessions_of sight.sessions.now) sight.session) c.number.result c.number.ensures
    (ap is_some c.in-None.is))
