use Rattle.std.proofs.Common.{Some}
use Rattle.wh_task.specs.View.{task_of}
use Rattle.wh_decide.specs.Sight.{machine_in}
use Rattle.wh_decide.proofs.OutcomeLemmas.{decides_as, comes_as}
use Rattle.wh_tick.proofs.RunLemmas.{run_by, no_root, no_task}
use Rattle.wh_tick.proofs.running.run_task.Goals as goal

pub returns-in_default-clause-comes : goal.returns-in_default-clause-comes
returns-in_default-clause-comes g c = λ _.
    let sight = c.args.sight.now in
    decides_as sight c.idle.result
    (no_root (machine_in sight) c.args.root c.args.task c.in_default.ensures) c.idle.ensures.comes

pub returns-in_default-task_at-clause-comes : goal.returns-in_default-task_at-clause-comes
returns-in_default-task_at-clause-comes g c = λ _.
    let sight = c.args.sight.now in
    decides_as sight c.idle-in_default-task_at.result
    (no_task (machine_in sight) c.args.root c.args.task (task_of c.in-Some.graph.now) c.in-Some.ensures
    c.in_default-task_at.ensures) c.idle-in_default-task_at.ensures.comes

pub returns-clause-comes : goal.returns-clause-comes
returns-clause-comes g c = λ shown.
    let sight = c.args.sight.now in
    comes_as sight c.run_by.result
    (run_by (machine_in sight) c.args.root c.args.task (Some (task_of c.in-Some.graph.now))
    (Some (task_of c.in-Some-task_at.ready.now)) c.in-Some.ensures c.in-Some-task_at.ensures)
    (c.run_by.ensures.comes shown)
