use Rattle.std.proofs.Common.{◌≡◌, ◌+◌, [], ◌∷◌, drop}
use Rattle.wh_graph.specs.Graph.{with_joining}
use Rattle.wh_task.specs.View.{tasks_of}
use Rattle.wh_task.proofs.begins.kept_tasks.Given as goal

abbrev pub invariant-loop-task : goal.invariant-loop-task
invariant-loop-task l =
    (with_joining l.kept.items (l.id + 1) (tasks_of (drop l.task-index l.tasks))
    ≡ with_joining (l.root ∷ []) 1 (tasks_of l.tasks)) × (l.id ≡ l.task-index)
