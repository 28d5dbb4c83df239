use Rattle.std.proofs.Common.{◌≡◌, take}
use Rattle.wh_state.specs.Task.{ended_in}
use Rattle.wh_task.specs.View.{run_of, ending_of}
use Rattle.wh_catalog.proofs.running.ended_run.Given as goal

abbrev pub invariant-loop-next : goal.invariant-loop-next
invariant-loop-next l =
    run_of l.ended.items ≡ ended_in l.task (ending_of l.ending) (run_of (take l.next-index l.run))
