use Rattle.std.proofs.Common.{◌≡◌, ◌+◌, drop}
use Rattle.std.specs.Prelude.{not}
use Rattle.wh_state.specs.Edits.{is_among}
use Rattle.wh_graph.specs.Action.{ready_from}
use Rattle.wh_task.specs.View.{tasks_of}
use Rattle.wh_task.proofs.action.ready_task.Given as goal

abbrev pub invariant-loop-task : goal.invariant-loop-task
invariant-loop-task l =
    (ready_from (λ id. not (is_among id l.held)) (tasks_of l.tasks) (l.root + 1) (tasks_of (drop l.task-index l.tasks))
    ≡ ready_from (λ id. not (is_among id l.held)) (tasks_of l.tasks) 1 (tasks_of l.tasks)) × (l.root ≡ l.task-index)
