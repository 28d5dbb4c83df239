use Rattle.std.proofs.Common.{◌≡◌, map, take}
use Rattle.wh_state.specs.Task.{waiting}
use Rattle.wh_task.specs.View.{run_of}
use Rattle.wh_catalog.proofs.running.waiting_run.Given as goal

abbrev pub invariant-loop-task : goal.invariant-loop-task
invariant-loop-task l = run_of l.run.items ≡ map waiting (take l.task-index l.tasks)
