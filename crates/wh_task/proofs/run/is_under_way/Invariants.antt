use Rattle.std.proofs.Common.{◌≡◌, drop}
use Rattle.wh_graph.specs.Graph.{is_under_way}
use Rattle.wh_task.specs.View.{run_of}
use Rattle.wh_task.proofs.run.is_under_way.Given as goal

abbrev pub invariant-loop-task : goal.invariant-loop-task
invariant-loop-task l = is_under_way (run_of (drop l.task-index l.run)) ≡ is_under_way (run_of l.run)
