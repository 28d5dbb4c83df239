use Rattle.std.proofs.Common.{◌≡◌, [], ◌∷◌, ◌++◌, drop}
use Rattle.wh_graph.specs.Graph.{reached_in}
use Rattle.wh_task.specs.View.{tasks_of, run_of}
use Rattle.wh_task.proofs.ends.reached_in.Given as goal

abbrev pub invariant-loop-next : goal.invariant-loop-next
invariant-loop-next l =
    l.waiting.items ++ reached_in (tasks_of l.tasks) l.reached.items (run_of (drop l.next-index l.run))
    ≡ reached_in (tasks_of l.tasks) (l.task ∷ []) (run_of l.run)
