use Rattle.std.proofs.Common.{◌∙◌, ap, map, IsTrue}
use Rattle.wh_state.specs.Commit.{waits_in}
use Rattle.wh_task.specs.View.{run_of, ending_of}
use Rattle.wh_catalog.specs.Undoable.{object_in}
use Rattle.wh_catalog.specs.Back.{holding}
use Rattle.wh_catalog.specs.Catalog.{objects_of, kept_of}
use Rattle.wh_catalog.proofs.TaskLaws.{tasks_changed, no_task, not_changed, ended_task}
use Rattle.wh_catalog.proofs.catalog.Catalog.finish_task.Goals as goal

pub returns-in-Some-clause-changed : goal.returns-in-Some-clause-changed
unfolding kept_of
returns-in-Some-clause-changed c =
    let run = run_of c.in_ok-run.run'.items in
    ap (map object_in) c.put_run.ensures.put
    ∙ tasks_changed (holding run) (kept_of c.args.self.now) c.args.root
    ∙ ended_task c.args.task (ending_of c.args.ending) run (objects_of c.args.self.now) c.args.root
    c.in_ok-run.ensures.ended

pub returns-in-None-clause-not_applicable : goal.returns-in-None-clause-not_applicable
unfolding kept_of
returns-in-None-clause-not_applicable c = λ _ applies.
    no_task (λ t. IsTrue (waits_in t.run c.args.task)) (kept_of c.args.self.now) c.args.root
    c.in-None.ensures.none applies

pub returns-in-None-clause-same : goal.returns-in-None-clause-same
unfolding kept_of
returns-in-None-clause-same c =
    c.put_run.ensures.put
    ∙ not_changed (holding (run_of c.in_ok-run.run'.items)) (kept_of c.args.self.now) c.args.root
    c.in-None.ensures.none
