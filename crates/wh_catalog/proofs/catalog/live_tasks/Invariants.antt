use Rattle.std.proofs.Common.{◌≡◌, take}
use Rattle.wh_state.specs.Objects.{live_tasks}
use Rattle.wh_task.specs.View.{tasks_of}
use Rattle.wh_catalog.specs.Object.{stored_objects}
use Rattle.wh_catalog.proofs.catalog.live_tasks.Given as goal

abbrev pub invariant-loop-object : goal.invariant-loop-object
invariant-loop-object l = tasks_of l.tasks.items ≡ live_tasks (stored_objects (take l.object-index l.objects))
