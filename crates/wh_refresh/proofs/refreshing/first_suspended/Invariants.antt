use Rattle.std.proofs.Common.{◌≡◌, drop}
use Rattle.wh_machine.specs.Dynamics.{first_suspended}
use Rattle.wh_refresh.specs.Objects.{objects_in}
use Rattle.wh_refresh.proofs.refreshing.first_suspended.Given as goal

abbrev pub invariant-loop-id : goal.invariant-loop-id
invariant-loop-id l = first_suspended (objects_in l.objects) (drop l.id-index l.ids)
    ≡ first_suspended (objects_in l.objects) l.ids
