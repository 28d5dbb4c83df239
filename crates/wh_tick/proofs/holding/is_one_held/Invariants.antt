use Rattle.std.proofs.Common.{◌≡◌, drop}
use Rattle.wh_machine.specs.Ticks.{first_held}
use Rattle.wh_txn.specs.View.{sessions_of}
use Rattle.wh_tick.proofs.holding.is_one_held.Given as goal

abbrev pub invariant-loop-id : goal.invariant-loop-id
invariant-loop-id l =
    first_held (sessions_of l.sessions) (drop l.id-index l.ids) ≡ first_held (sessions_of l.sessions) l.ids
