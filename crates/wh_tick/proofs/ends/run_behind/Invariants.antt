use Rattle.std.proofs.Common.{◌≡◌, take}
use Rattle.wh_task.specs.View.{ending_of, run_of}
use Rattle.wh_tick.specs.Ends.{run_as}
use Rattle.wh_tick.proofs.ends.run_behind.Given as goal

abbrev pub invariant-loop-one : goal.invariant-loop-one
invariant-loop-one l =
    run_of l.behind.items ≡ run_as l.skipped l.task (ending_of l.ending) (run_of (take l.one-index l.run))
