use Rattle.std.proofs.Common.{◌≡◌, drop}
use Rattle.std.specs.List.{list_any}
use Rattle.wh_moment.specs.Moment.{is_suspended_at}
use Rattle.wh_dynamic.specs.View.{dynamics_in}
use Rattle.wh_dynamic.proofs.due.is_one_suspended.Given as goal

abbrev pub invariant-loop-id : goal.invariant-loop-id
invariant-loop-id l = list_any (is_suspended_at (dynamics_in l.all)) (drop l.id-index l.ids)
    ≡ list_any (is_suspended_at (dynamics_in l.all)) l.ids
