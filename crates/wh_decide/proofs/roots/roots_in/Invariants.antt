use Rattle.std.proofs.Common.{◌≡◌, ◌+◌, ◌++◌, map, drop}
use Rattle.wh_ddl_bind.specs.View.{root_in}
use Rattle.wh_task.specs.View.{tasks_of}
use Rattle.wh_decide.specs.Names.{roots_told}
use Rattle.wh_decide.proofs.roots.roots_in.Given as goal

abbrev pub invariant-loop-task : goal.invariant-loop-task
invariant-loop-task l =
    (map root_in l.roots.items ++ roots_told (l.id + 1) (tasks_of (drop l.task-index l.tasks))
    ≡ roots_told 1 (tasks_of l.tasks)) × (l.id ≡ l.task-index)
