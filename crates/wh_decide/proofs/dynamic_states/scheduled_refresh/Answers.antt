use Rattle.std.proofs.Common.{None, ap, sym, subst}
use Rattle.wh_machine.specs.Refresh.{refresh}
use Rattle.wh_machine.specs.Dynamics.{scheduled_by, scheduled}
use Rattle.wh_refresh.specs.Refreshing.{RefreshesAs, AreRead}
use Rattle.wh_catalog.specs.Catalog.{stored_of}
use Rattle.wh_decide.specs.Sight.{machine_in}
use Rattle.wh_decide.proofs.OutcomeLemmas.{decides_as}
use Rattle.wh_decide.proofs.ReadyLemmas.{failed_settles}
use Rattle.std.proofs.Common.{Some}
use Rattle.wh_reply.specs.Reply.{Reply}
use Rattle.wh_decide.specs.RefreshAsked.{AsksToBring, AsksAsReplied}
use Rattle.wh_decide.proofs.RefreshAskLaws.{failed_asks}
use Rattle.wh_decide.proofs.dynamic_states.scheduled_refresh.Goals as goal

pub returns-in_ok-failed-in-Fails-clause-comes : goal.returns-in_ok-failed-in-Fails-clause-comes
unfolding scheduled
returns-in_ok-failed-in-Fails-clause-comes g c = λ shown sound.
    let sight = c.args.sight.now in
    let m = machine_in sight in
    let outcome = refresh m.state None c.args.id c.args.target in
    let fails = subst (λ f. RefreshesAs sight.stamp (stored_of sight.catalog.now).objects f outcome)
    c.in-Fails.is (c.in_ok-found.ensures.refreshes shown sound) in
    decides_as sight _ (sym (ap (scheduled_by m c.args.id c.args.target) fails)) c.in_ok-failed-in-Fails.ensures

pub returns-in-Brings-clause-comes : goal.returns-in-Brings-clause-comes
unfolding scheduled
returns-in-Brings-clause-comes g c = λ shown sound.
    let sight = c.args.sight.now in
    let m = machine_in sight in
    let outcome = refresh m.state None c.args.id c.args.target in
    let brings = subst (λ f. RefreshesAs sight.stamp (stored_of sight.catalog.now).objects f outcome)
    c.in-Brings.is (c.in_ok-found.ensures.refreshes shown sound) in
    decides_as sight c.defined.result (sym (ap (scheduled_by m c.args.id c.args.target) brings.is))
    (c.defined.ensures.comes brings.acts brings.written)

pub returns-in_ok-failed-in-Fails-clause-ready : goal.returns-in_ok-failed-in-Fails-clause-ready
returns-in_ok-failed-in-Fails-clause-ready g c =
    failed_settles c.args.sight.now c.args.id c.args.target _ _ _ c.in_ok-failed-in-Fails.ensures

pub returns-in-Brings-clause-ready : goal.returns-in-Brings-clause-ready
returns-in-Brings-clause-ready g c =
    c.defined.ensures.ready (subst AreRead c.in-Brings.is c.in_ok-found.ensures.read)

-- ---- what is asked for

pub returns-in_ok-failed-in-Fails-clause-fetches : goal.returns-in_ok-failed-in-Fails-clause-fetches
returns-in_ok-failed-in-Fails-clause-fetches g c =
    failed_asks c.args.sight.now.catalog.now c.args.fetch.now.asked.items c.refreshing.new.fetch.asked.items
    c.args.sight.now (Some (c.args.id, c.args.target)) c.args.id c.args.target _ _ _ c.in_ok-failed-in-Fails.ensures

pub returns-in-Brings-clause-fetches : goal.returns-in-Brings-clause-fetches
returns-in-Brings-clause-fetches g c =
    let catalog = c.args.sight.now.catalog.now in
    let before = c.args.fetch.now.asked.items in
    let after = c.refreshing.new.fetch.asked.items in
    subst (λ (r : Reply). AsksAsReplied catalog (Some (c.args.id, c.args.target)) before after r)
    (sym c.defined.ensures.reply)
    (subst (AsksToBring catalog c.args.id c.args.target before after) c.in-Brings.is c.in_ok-found.ensures.fetches)
