use Rattle.std.proofs.Common.{◌≡◌, false, ◌∙◌, sym, ap, map}
use Rattle.std.specs.List.{list_any}
use Rattle.wh_state.specs.State.{changed_at}
use Rattle.wh_state.specs.Commit.{on_task_stored, waits}
use Rattle.wh_task.specs.View.{run_of}
use Rattle.wh_catalog.specs.Undoable.{object_in}
use Rattle.wh_catalog.specs.Back.{holding}
use Rattle.wh_catalog.specs.Catalog.{objects_of, kept_of}
use Rattle.wh_catalog.proofs.TaskConditions.{Decides-run}
use Rattle.wh_catalog.proofs.TaskLaws.{tasks_changed, no_task, not_changed}
use Rattle.wh_catalog.proofs.catalog.Catalog.start_run.Goals as goal

pub returns-then-not-run_applies-clause-not_applicable : goal.returns-then-not-run_applies-clause-not_applicable
returns-then-not-run_applies-clause-not_applicable c = λ _ applies.
    let yes = (Decides-run (objects_of c.args.self.now) c.args.root c.args.tasks.now).1 applies in cc

pub returns-in-Some-clause-applies : goal.returns-in-Some-clause-applies
returns-in-Some-clause-applies c =
    (Decides-run (objects_of c.args.self.now) c.args.root c.args.tasks.now).0
    (sym c.run_applies.ensures ∙ c.if-not-run_applies.false)

pub returns-in-Some-clause-changed : goal.returns-in-Some-clause-changed
unfolding kept_of
returns-in-Some-clause-changed c =
    ap (map object_in) c.put_run.ensures.put
    ∙ tasks_changed (holding (run_of c.in-Ok.run'.items)) (kept_of c.args.self.now) c.args.root
    ∙ ap (λ run. changed_at (objects_of c.args.self.now) c.args.root (on_task_stored (holding run))) c.in-Ok.ensures

pub returns-in-None-clause-not_applicable : goal.returns-in-None-clause-not_applicable
unfolding kept_of
returns-in-None-clause-not_applicable c = λ _ applies.
    no_task (λ t. (t.root ≡ c.args.root) × (list_any waits t.run ≡ false)) (kept_of c.args.self.now) c.args.root
    c.in-None.ensures.none applies.none

pub returns-in-None-clause-same : goal.returns-in-None-clause-same
unfolding kept_of
returns-in-None-clause-same c =
    c.put_run.ensures.put
    ∙ not_changed (holding (run_of c.in-Ok.run'.items)) (kept_of c.args.self.now) c.args.root c.in-None.ensures.none
