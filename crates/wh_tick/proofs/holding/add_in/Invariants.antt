use Rattle.std.proofs.Common.{◌≡◌, ◌++◌, map, take}
use Rattle.wh_naming.specs.View.{named_of}
use Rattle.wh_task.specs.View.{run_of}
use Rattle.wh_decide.specs.Sight.{machine_in}
use Rattle.wh_tick.specs.Holding.{held_in, is_free_over}
use Rattle.wh_tick.proofs.holding.add_in.Given as goal

abbrev pub invariant-loop-one : goal.invariant-loop-one
invariant-loop-one l =
    l.held.items ≡ l.initial.held.items
    ++ held_in (is_free_over (map named_of l.names) (machine_in l.sight)) (run_of (take l.one-index l.run))
