use Rattle.std.proofs.Common.{◌≡◌, map, drop, option_map}
use Rattle.wh_machine.specs.Sessions as machine
use Rattle.wh_txn.specs.View.{transaction_of}
use Rattle.wh_txn.proofs.sessions.holder.Given as goal

abbrev pub invariant-loop-slot : goal.invariant-loop-slot
invariant-loop-slot l =
    machine.holder (map (option_map transaction_of) (drop l.slot-index l.slots)) l.id
    ≡ machine.holder (map (option_map transaction_of) l.slots) l.id
