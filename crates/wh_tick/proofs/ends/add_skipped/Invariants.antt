use Rattle.std.proofs.Common.{◌≡◌, ◌++◌, map, take}
use Rattle.wh_state.specs.Commit.{FinishesTask}
use Rattle.wh_state.specs.Task.{Skipped}
use Rattle.wh_record.specs.View.{change_of}
use Rattle.wh_tick.proofs.ends.add_skipped.Given as goal

abbrev pub invariant-loop-task : goal.invariant-loop-task
invariant-loop-task l =
    map change_of l.changes.items
    ≡ map change_of l.initial.changes.items ++ map (λ id. FinishesTask l.root id Skipped) (take l.task-index l.skipped)
