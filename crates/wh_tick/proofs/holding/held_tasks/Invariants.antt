use Rattle.std.proofs.Common.{◌≡◌, map, take}
use Rattle.wh_naming.specs.View.{named_of}
use Rattle.wh_task.specs.View.{tasks_of}
use Rattle.wh_decide.specs.Sight.{machine_in}
use Rattle.wh_tick.specs.Holding.{held_among, is_free_over}
use Rattle.wh_tick.proofs.holding.held_tasks.Given as goal

abbrev pub invariant-loop-task : goal.invariant-loop-task
invariant-loop-task l =
    l.held.items
    ≡ held_among (is_free_over (map named_of l.names) (machine_in l.sight)) (tasks_of (take l.task-index l.tasks))
