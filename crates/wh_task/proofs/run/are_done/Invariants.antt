use Rattle.std.proofs.Common.{◌≡◌, drop}
use Rattle.wh_graph.specs.Graph.{are_done}
use Rattle.wh_task.specs.View.{run_of}
use Rattle.wh_task.proofs.run.are_done.Given as goal

abbrev pub invariant-loop-task : goal.invariant-loop-task
invariant-loop-task l = are_done (run_of (drop l.task-index l.run)) l.after ≡ are_done (run_of l.run) l.after
