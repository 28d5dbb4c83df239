use Rattle.std.proofs.Common.{◌≡◌, ℕ, List, Some, None, option_map, ap, sym, ◌∙◌}
use Rattle.wh_reply.specs.Reply.{Altered, DdlInTransaction, Locked}
use Rattle.wh_reply.specs.View.{refusal_view}
use Rattle.wh_state.specs.Objects.{dynamic_at}
use Rattle.wh_machine.specs.Sessions.{number_in}
use Rattle.wh_machine.specs.Outcome.{commits}
use Rattle.wh_machine.specs.Definitions.{holder_of}
use Rattle.wh_machine.specs.Dynamics.{puts_dynamic, lag_refusal}
use Rattle.wh_catalog.specs.Catalog.{state_of}
use Rattle.wh_txn.specs.View.{sessions_of}
use Rattle.wh_decide.specs.Sight.{machine_in}
use Rattle.wh_decide.specs.Dynamics.{lag_state}
use Rattle.wh_decide.proofs.OutcomeLemmas.{decides_as}
use Rattle.wh_decide.proofs.DefineLemmas.{none_past}
use Rattle.wh_decide.proofs.DynamicLemmas.{puts_as}
use Rattle.wh_decide.proofs.NewDynamics.{defines_lag, within_new_lag}
use Rattle.wh_decide.proofs.dynamic_states.set_lag.Goals as goal

pub returns-in-Some : goal.returns-in-Some
returns-in-Some c =
    let sight = c.args.sight.now in
    defines_lag (state_of sight.catalog.now) sight.stamp (sessions_of sight.sessions.now) sight.session c.args.id
    c.args.lag _ (Some (refusal_view c.in-Some.why)) c.in_ok-wrong.ensures
    (sym (ap (option_map refusal_view) c.in-Some.is) ∙ c.definition_refusal.ensures)

pub new_lag-requires : goal.new_lag-requires
new_lag-requires c =
    let sight = c.args.sight.now in
    let passed : lag_refusal (state_of sight.catalog.now) None c.args.id c.args.lag ≡ None =
    sym c.in_ok-wrong.ensures ∙ none_past
    (option_map DdlInTransaction (number_in (sessions_of sight.sessions.now) sight.session))
    (option_map refusal_view c.in_ok-wrong.wrong)
    (option_map Locked (holder_of (sessions_of sight.sessions.now) None))
    (sym c.definition_refusal.ensures ∙ ap (option_map refusal_view) c.in_default.is) in
    within_new_lag (state_of sight.catalog.now) c.args.id c.args.lag passed

pub returns : goal.returns
returns c =
    let sight = c.args.sight.now in
    let id = c.args.id in
    let acts = puts_dynamic id (lag_state c.args.lag) (dynamic_at (state_of sight.catalog.now).objects id) in
    decides_as sight c.defined.result
    (ap (λ (name : List ℕ). commits (machine_in sight) (Altered name) acts) c.in_ok-name_of.ensures
    ∙ sym (defines_lag (state_of sight.catalog.now) sight.stamp (sessions_of sight.sessions.now) sight.session id
    c.args.lag _ None c.in_ok-wrong.ensures
    (sym (ap (option_map refusal_view) c.in_default.is) ∙ c.definition_refusal.ensures)))
    (c.defined.ensures.comes acts
    (c.in_ok-changes.ensures ∙ puts_as sight.catalog.now sight.stamp id (lag_state c.args.lag)))
