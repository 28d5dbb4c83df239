use Rattle.std.proofs.Common.{ap, sym, subst}
use Rattle.wh_machine.specs.Dynamics.{refreshed_by}
use Rattle.wh_refresh.specs.Refreshing.{RefreshesAs, AreRead}
use Rattle.wh_catalog.specs.Catalog.{stored_of}
use Rattle.wh_decide.specs.Sight.{machine_in}
use Rattle.wh_decide.proofs.OutcomeLemmas.{decides_as}
use Rattle.wh_decide.proofs.ReadyLemmas.{nothing_ready}
use Rattle.std.proofs.Common.{Some}
use Rattle.wh_reply.specs.Reply.{Reply}
use Rattle.wh_decide.specs.RefreshAsked.{AsksToBring, AsksAsReplied}
use Rattle.wh_decide.proofs.dynamic_states.refreshed.Goals as goal

pub returns-in-Fails-clause-comes : goal.returns-in-Fails-clause-comes
returns-in-Fails-clause-comes c = λ outcome told.
    let sight = c.args.sight.now in
    ap (refreshed_by (machine_in sight))
    (subst (λ f. RefreshesAs sight.stamp (stored_of sight.catalog.now).objects f outcome) c.in-Fails.is told)

pub returns-in-Brings-clause-comes : goal.returns-in-Brings-clause-comes
returns-in-Brings-clause-comes c = λ outcome told.
    let sight = c.args.sight.now in
    let brings = subst (λ f. RefreshesAs sight.stamp (stored_of sight.catalog.now).objects f outcome)
    c.in-Brings.is told in
    decides_as sight c.defined.result (sym (ap (refreshed_by (machine_in sight)) brings.is))
    (c.defined.ensures.comes brings.acts brings.written)

pub returns-in-Fails-clause-ready : goal.returns-in-Fails-clause-ready
returns-in-Fails-clause-ready c = λ read. nothing_ready c.args.sight.now

pub returns-in-Brings-clause-ready : goal.returns-in-Brings-clause-ready
returns-in-Brings-clause-ready c = λ read. c.defined.ensures.ready (subst AreRead c.in-Brings.is read)

-- ---- what is asked for

pub returns-in-Brings-clause-fetches : goal.returns-in-Brings-clause-fetches
returns-in-Brings-clause-fetches c = λ catalog id moment before after asks.
    subst (λ (r : Reply). AsksAsReplied catalog (Some (id, moment)) before after r) (sym c.defined.ensures.reply)
    (subst (AsksToBring catalog id moment before after) c.in-Brings.is asks)
