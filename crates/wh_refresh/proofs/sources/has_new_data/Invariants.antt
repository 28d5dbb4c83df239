use Rattle.std.proofs.Common.{◌≡◌, ℕ, List, drop}
use Rattle.wh_machine.specs.Refresh.{Brought, has_new_data}
use Rattle.wh_machine.specs.Brought.{after_all, AreAbove}
use Rattle.wh_refresh.specs.Objects.{objects_in, stored_in}
use Rattle.wh_refresh.specs.Brought.{AreBrought}
use Rattle.wh_refresh.proofs.sources.has_new_data.Given as goal

abbrev pub invariant-loop-id : goal.invariant-loop-id
invariant-loop-id l = (stamp : ℕ) (bs : List Brought) → AreBrought (stored_in l.objects) l.brought bs → AreAbove 0 bs
    → has_new_data (after_all stamp l.to bs (objects_in l.objects)) l.from l.to (drop l.id-index l.ids)
    ≡ has_new_data (after_all stamp l.to bs (objects_in l.objects)) l.from l.to l.ids
