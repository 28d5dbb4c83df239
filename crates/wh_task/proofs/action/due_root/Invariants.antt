use Rattle.std.proofs.Common.{◌≡◌, ◌+◌, drop}
use Rattle.wh_graph.specs.Action.{due_from}
use Rattle.wh_task.specs.View.{tasks_of}
use Rattle.wh_task.proofs.action.due_root.Given as goal

abbrev pub invariant-loop-task : goal.invariant-loop-task
invariant-loop-task l =
    (due_from l.stamp (l.id + 1) (tasks_of (drop l.task-index l.tasks)) ≡ due_from l.stamp 1 (tasks_of l.tasks))
    × (l.id ≡ l.task-index)
