use Rattle.std.proofs.Common.{◌≡◌, drop}
use Rattle.std.specs.Prelude.{not}
use Rattle.wh_state.specs.Edits.{is_among}
use Rattle.wh_graph.specs.Action.{first_ready}
use Rattle.wh_task.specs.View.{tasks_of, run_of}
use Rattle.wh_task.proofs.action.first_ready.Given as goal

abbrev pub invariant-loop-next : goal.invariant-loop-next
invariant-loop-next l =
    first_ready (λ id. not (is_among id l.held)) (tasks_of l.tasks) (run_of l.run) (run_of (drop l.next-index l.run))
    ≡ first_ready (λ id. not (is_among id l.held)) (tasks_of l.tasks) (run_of l.run) (run_of l.run)
