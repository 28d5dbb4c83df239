use Rattle.std.proofs.Common.{◌≡◌, ◌+◌, drop}
use Rattle.wh_task.specs.View.{tasks_of}
use Rattle.wh_decide.specs.Tasks.{first_child}
use Rattle.wh_decide.proofs.graphs.first_child.Given as goal

abbrev pub invariant-loop-task : goal.invariant-loop-task
invariant-loop-task l =
    (first_child l.parent (l.id + 1) (tasks_of (drop l.task-index l.tasks))
    ≡ first_child l.parent 1 (tasks_of l.tasks)) × (l.id ≡ l.task-index)
