use Rattle.std.proofs.Common.{◌≡◌, max, drop}
use Rattle.wh_moment.specs.Moment.{greatest_moment}
use Rattle.wh_dynamic.specs.View.{dynamics_in}
use Rattle.wh_dynamic.proofs.due.greatest_moment.Given as goal

abbrev pub invariant-loop-id : goal.invariant-loop-id
invariant-loop-id l = max l.greatest (greatest_moment (dynamics_in l.all) (drop l.id-index l.ids))
    ≡ greatest_moment (dynamics_in l.all) l.ids
