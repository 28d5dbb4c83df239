use Rattle.std.proofs.Common.{ℕ, List, ap, sym, subst, ◌∙◌}
use Rattle.std.specs.Result.{IfOk}
use Rattle.std.proofs.lemmas.Result.{IfOk-weaker}
use Rattle.wh_state.specs.State.{stamped}
use Rattle.wh_machine.specs.Outcome.{Outcome}
use Rattle.wh_machine.specs.Step.{commanded, outcome_of}
use Rattle.wh_stmt_parse.specs.Request.{request_of}
use Rattle.wh_catalog.specs.Catalog.{stored_of, state_of}
use Rattle.wh_txn.specs.View.{sessions_of}
use Rattle.wh_decide.specs.declared.event.Event.{Event}
use Rattle.wh_decide.specs.Event.{event_of}
use Rattle.wh_decide.specs.Decision.{Decides, machine_at}
use Rattle.wh_decide.specs.Asked.{AsksAsRequested, AsksInEvent}
use Rattle.wh_decide.specs.Decision.{answer_of}
use Rattle.wh_decide.specs.RefreshAsked.{refresh_requested, refresh_in, AsksAsReplied}
use Rattle.wh_tick.proofs.deciding.decide.Goals as goal

pub returns-in-Command-clause-decided : goal.returns-in-Command-clause-decided
returns-in-Command-clause-decided g c = λ shown sound.
    let catalog = c.args.catalog.now in
    let sessions = sessions_of c.args.sessions.now in
    let m = machine_at (stamped (state_of catalog) c.args.stamp) sessions in
    subst (λ (o : Outcome). IfOk c.decide_command.result (λ d. Decides (stored_of catalog) sessions c.args.stamp d o))
    (ap (λ (t : List ℕ). commanded m c.in-Command.session (request_of t)) c.as_slice.ensures
    ∙ ap (λ (e : Event). outcome_of m (event_of e)) (sym c.in-Command.is))
    (c.decide_command.ensures.comes shown sound)

pub returns-in-Command-clause-staged : goal.returns-in-Command-clause-staged
returns-in-Command-clause-staged g c =
    IfOk-weaker c.decide_command.result _ _ (λ _ ready. ready.staged) c.decide_command.ensures.ready

pub returns-in-Command-clause-timed : goal.returns-in-Command-clause-timed
returns-in-Command-clause-timed g c =
    IfOk-weaker c.decide_command.result _ _ (λ _ ready. ready.timed) c.decide_command.ensures.ready

pub returns-in-Command-clause-read : goal.returns-in-Command-clause-read
returns-in-Command-clause-read g c =
    IfOk-weaker c.decide_command.result _ _ (λ _ ready. ready.read) c.decide_command.ensures.ready

pub returns-in-Tick-clause-decided : goal.returns-in-Tick-clause-decided
returns-in-Tick-clause-decided g c = λ shown sound.
    let catalog = c.args.catalog.now in
    let sessions = sessions_of c.args.sessions.now in
    let m = machine_at (stamped (state_of catalog) c.args.stamp) sessions in
    subst (λ (o : Outcome). IfOk c.decide_tick.result (λ d. Decides (stored_of catalog) sessions c.args.stamp d o))
    (ap (λ (e : Event). outcome_of m (event_of e)) (sym c.in-Tick.is)) (c.decide_tick.ensures.comes shown sound)

pub returns-in-Tick-clause-staged : goal.returns-in-Tick-clause-staged
returns-in-Tick-clause-staged g c =
    IfOk-weaker c.decide_tick.result _ _ (λ _ ready. ready.staged) c.decide_tick.ensures.ready

pub returns-in-Tick-clause-timed : goal.returns-in-Tick-clause-timed
returns-in-Tick-clause-timed g c =
    IfOk-weaker c.decide_tick.result _ _ (λ _ ready. ready.timed) c.decide_tick.ensures.ready

pub returns-in-Tick-clause-read : goal.returns-in-Tick-clause-read
returns-in-Tick-clause-read g c =
    IfOk-weaker c.decide_tick.result _ _ (λ _ ready. ready.read) c.decide_tick.ensures.ready

pub returns-in-Command-clause-asks : goal.returns-in-Command-clause-asks
returns-in-Command-clause-asks g c =
    let catalog = c.args.catalog.now in
    let m = machine_at (stamped (state_of catalog) c.args.stamp) (sessions_of c.args.sessions.now) in
    subst (λ (e : Event). AsksInEvent catalog m (event_of e) c.args.fetch.now.asked.items
    c.decide_command.new.fetch.asked.items) (sym c.in-Command.is)
    (subst (λ (t : List ℕ). AsksAsRequested catalog m c.in-Command.session (request_of t) c.args.fetch.now.asked.items
    c.decide_command.new.fetch.asked.items) c.as_slice.ensures c.decide_command.ensures.asks)

pub returns-in-Tick-clause-asks : goal.returns-in-Tick-clause-asks
returns-in-Tick-clause-asks g c =
    let catalog = c.args.catalog.now in
    let m = machine_at (stamped (state_of catalog) c.args.stamp) (sessions_of c.args.sessions.now) in
    subst (λ (e : Event). AsksInEvent catalog m (event_of e) c.args.fetch.now.asked.items
    c.decide_tick.new.fetch.asked.items) (sym c.in-Tick.is) tt

pub returns-in-Command-clause-fetches : goal.returns-in-Command-clause-fetches
returns-in-Command-clause-fetches g c =
    let catalog = c.args.catalog.now in
    let m = machine_at (stamped (state_of catalog) c.args.stamp) (sessions_of c.args.sessions.now) in
    subst (λ (e : Event). IfOk c.decide_command.result (λ d. AsksAsReplied catalog (refresh_in m (event_of e))
    c.args.fetch.now.asked.items c.decide_command.new.fetch.asked.items (answer_of d))) (sym c.in-Command.is)
    (subst (λ (t : List ℕ). IfOk c.decide_command.result (λ d. AsksAsReplied catalog (refresh_requested m (request_of t))
    c.args.fetch.now.asked.items c.decide_command.new.fetch.asked.items (answer_of d))) c.as_slice.ensures
    c.decide_command.ensures.fetches)

pub returns-in-Tick-clause-fetches : goal.returns-in-Tick-clause-fetches
returns-in-Tick-clause-fetches g c =
    let catalog = c.args.catalog.now in
    let m = machine_at (stamped (state_of catalog) c.args.stamp) (sessions_of c.args.sessions.now) in
    subst (λ (e : Event). IfOk c.decide_tick.result (λ d. AsksAsReplied catalog (refresh_in m (event_of e))
    c.args.fetch.now.asked.items c.decide_tick.new.fetch.asked.items (answer_of d))) (sym c.in-Tick.is)
    c.decide_tick.ensures.fetches
