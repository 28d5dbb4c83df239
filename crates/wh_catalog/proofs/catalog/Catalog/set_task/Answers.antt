use Rattle.std.proofs.Common.{◌∙◌, sym, ap, map, ◌≤◌}
use Rattle.wh_state.specs.State.{at_id}
use Rattle.wh_state.specs.Task.{with_state, most_failures}
use Rattle.wh_task.specs.View.{state_of}
use Rattle.wh_catalog.specs.Undoable.{object_in}
use Rattle.wh_catalog.specs.Catalog.{objects_of, kept_of}
use Rattle.wh_catalog.proofs.TaskConditions.{Decides-state}
use Rattle.wh_catalog.proofs.TaskLaws.{tasks_changed, no_task, not_changed}
use Rattle.wh_catalog.proofs.catalog.Catalog.set_task.Goals as goal

pub returns-then-not-state_applies-clause-not_applicable : goal.returns-then-not-state_applies-clause-not_applicable
returns-then-not-state_applies-clause-not_applicable c = λ _ applies.
    let yes = (Decides-state (at_id (objects_of c.args.self.now) c.args.id) (state_of c.args.state)).1 applies in cc

pub returns-in-Some-clause-applies : goal.returns-in-Some-clause-applies
returns-in-Some-clause-applies c =
    (Decides-state (at_id (objects_of c.args.self.now) c.args.id) (state_of c.args.state)).0
    (sym c.state_applies.ensures ∙ c.if-not-state_applies.false)

pub returns-in-Some-clause-changed : goal.returns-in-Some-clause-changed
unfolding kept_of
returns-in-Some-clause-changed c =
    ap (map object_in) c.put_state.ensures.put
    ∙ tasks_changed (with_state (state_of c.args.state)) (kept_of c.args.self.now) c.args.id

pub returns-in-None-clause-not_applicable : goal.returns-in-None-clause-not_applicable
unfolding kept_of
returns-in-None-clause-not_applicable c = λ _ applies.
    no_task (λ t. c.args.state.failures ≤ most_failures) (kept_of c.args.self.now) c.args.id
    c.in-None.ensures.none applies

pub returns-in-None-clause-same : goal.returns-in-None-clause-same
unfolding kept_of
returns-in-None-clause-same c =
    c.put_state.ensures.put
    ∙ not_changed (with_state (state_of c.args.state)) (kept_of c.args.self.now) c.args.id c.in-None.ensures.none
