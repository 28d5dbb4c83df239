use Rattle.std.proofs.Common.{◌≡◌, drop}
use Rattle.wh_state.specs.Commit.{waits_in}
use Rattle.wh_task.specs.View.{run_of}
use Rattle.wh_catalog.proofs.running.waits_in.Given as goal

abbrev pub invariant-loop-next : goal.invariant-loop-next
invariant-loop-next l = waits_in (run_of (drop l.next-index l.run)) l.task ≡ waits_in (run_of l.run) l.task
