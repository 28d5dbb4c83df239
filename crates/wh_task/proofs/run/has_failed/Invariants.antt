use Rattle.std.proofs.Common.{◌≡◌, drop}
use Rattle.wh_graph.specs.Graph.{has_failed}
use Rattle.wh_task.specs.View.{run_of}
use Rattle.wh_task.proofs.run.has_failed.Given as goal

abbrev pub invariant-loop-task : goal.invariant-loop-task
invariant-loop-task l = has_failed (run_of (drop l.task-index l.run)) ≡ has_failed (run_of l.run)
