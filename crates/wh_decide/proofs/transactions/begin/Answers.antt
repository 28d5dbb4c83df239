use Rattle.std.proofs.Common.{refl, sym, ◌∙◌}
use Rattle.wh_reply.specs.Reply.{Begun}
use Rattle.wh_reply.specs.declared.reply.Reply.TheVariants as told
use Rattle.wh_catalog.specs.Catalog.{stored_of}
use Rattle.wh_txn.specs.View.{sessions_of}
use Rattle.wh_decide.specs.Sight.{machine_in}
use Rattle.wh_decide.proofs.OutcomeLemmas.{begins}
use Rattle.wh_decide.proofs.TransactionLemmas.{begin_open, begin_new}
use Rattle.wh_decide.proofs.transactions.begin.Goals as goal

pub returns-in-Some : goal.returns-in-Some
returns-in-Some c =
    let sight = c.args.sight.now in
    begin_open (machine_in sight) sight.session c.in-Some.number (sym c.number.ensures ∙ c.in-Some.is)

pub returns-in-None : goal.returns-in-None
returns-in-None c =
    let sight = c.args.sight.now in
    begins (stored_of sight.catalog.now) (sessions_of sight.sessions.now) sight.stamp sight.session
    (told.Begun sight.stamp) _ (Begun sight.stamp) refl
    (begin_new (machine_in sight) sight.session (sym c.number.ensures ∙ c.in-None.is))
