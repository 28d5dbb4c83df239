use Rattle.std.proofs.Common.{[], ◌∷◌, ap, ◌∙◌}
use Rattle.wh_reply.specs.View.{refusal_view}
use Rattle.wh_moment.specs.Upstream.{Dynamics, upstream}
use Rattle.wh_dynamic.specs.View.{dynamics_in}
use Rattle.wh_machine.specs.Tests.{first_of}
use Rattle.wh_machine.specs.Dynamics.{below_refusal}
use Rattle.wh_catalog.specs.Catalog.{state_of}
use Rattle.wh_decide.proofs.OutcomeLemmas.{first_three}
use Rattle.wh_decide.proofs.DynamicLemmas.{dynamics_are}
use Rattle.wh_decide.proofs.NewDynamics.{lag_by}
use Rattle.wh_decide.proofs.dynamic_states.new_lag_refusal.Goals as goal

pub returns : goal.returns
returns c =
    let catalog = c.args.catalog.now in
    let objects = (state_of catalog).objects in
    let id = c.args.id in
    let lag = c.args.lag in
    let reads = c.deref-2.ensures.value ∙ c.in_ok-reads.ensures
    ∙ ap (λ (all : Dynamics). upstream all id)
    (ap dynamics_in c.deref.ensures.value ∙ c.in_ok-all.ensures.watched ∙ dynamics_are catalog) in
    let below = c.in_ok-below.ensures
    ∙ (λ i. below_refusal objects (c.in_ok-name.ensures i) lag (reads i)) in
    rw (c.or-2.ensures, c.or.ensures)
    (first_three refusal_view c.in_ok-below.below c.in_ok-above.above c.lag_refusal.result
    ∙ (λ i. first_of (below i ∷ c.in_ok-above.ensures i ∷ c.lag_refusal.ensures i ∷ []))
    ∙ lag_by (state_of catalog) id lag)
