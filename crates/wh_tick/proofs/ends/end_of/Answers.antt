use Rattle.std.proofs.Common.{List, ℕ, ap, ◌∙◌}
use Rattle.wh_task.specs.View.{ending_of, run_of, tasks_of}
use Rattle.wh_tick.specs.Ends.{run_as}
use Rattle.wh_tick.proofs.EndLemmas.{run_behind_is}
use Rattle.wh_tick.proofs.ends.end_of.Goals as goal

pub returns-clause-run : goal.returns-clause-run
returns-clause-run c =
    let run = run_of c.args.run.now in
    let ending = ending_of c.args.ending in
    c.in_ok-run.ensures
    ∙ ap (λ (ids : List ℕ). run_as ids c.args.task ending run) (c.deref.ensures.value ∙ c.in_ok-skipped.ensures)
    ∙ run_behind_is (tasks_of c.args.tasks.now) run c.args.task ending
