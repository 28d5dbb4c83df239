use Rattle.std.proofs.Common.{Some, None, option_map, ap, sym, ◌∙◌}
use Rattle.wh_reply.specs.View.{refusal_view}
use Rattle.wh_machine.specs.Dynamics.{asked_refresh, refreshed_by, refresh_dynamic}
use Rattle.wh_decide.specs.Sight.{machine_in}
use Rattle.wh_decide.proofs.OutcomeLemmas.{decides_as}
use Rattle.wh_decide.proofs.ReadyLemmas.{nothing_ready}
use Rattle.wh_decide.proofs.DynamicLemmas.{defines_found}
use Rattle.wh_decide.proofs.dynamic_states.refresh_dynamic.Goals as goal

pub returns-in-Some-clause-comes : goal.returns-in-Some-clause-comes
returns-in-Some-clause-comes g c = λ shown sound.
    let sight = c.args.sight.now in
    defines_found (machine_in sight) sight.session (Some (refusal_view c.in-Some.why))
    (refresh_dynamic (machine_in sight) None c.args.id)
    (sym (ap (option_map refusal_view) c.in-Some.is) ∙ c.refused_in_transaction.ensures)

pub returns-clause-comes : goal.returns-clause-comes
unfolding refresh_dynamic
returns-clause-comes g c = λ shown sound.
    let sight = c.args.sight.now in
    let outcome = asked_refresh (machine_in sight).state c.args.id in
    decides_as sight c.refreshed.result
    (sym (defines_found (machine_in sight) sight.session None (refreshed_by (machine_in sight) outcome)
    (sym (ap (option_map refusal_view) c.in_default.is) ∙ c.refused_in_transaction.ensures)))
    (c.refreshed.ensures.comes outcome (c.in_ok-found.ensures.refreshes shown sound))

pub returns-in-Some-clause-ready : goal.returns-in-Some-clause-ready
returns-in-Some-clause-ready g c = nothing_ready c.args.sight.now

pub returns-clause-ready : goal.returns-clause-ready
returns-clause-ready g c = c.refreshed.ensures.ready c.in_ok-found.ensures.read

-- ---- what is asked for

pub returns-clause-fetches : goal.returns-clause-fetches
returns-clause-fetches g c =
    c.refreshed.ensures.fetches c.args.sight.now.catalog.now c.args.id c.args.sight.now.stamp _ _
    c.in_ok-found.ensures.fetches
