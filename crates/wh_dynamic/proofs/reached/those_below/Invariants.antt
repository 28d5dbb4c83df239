use Rattle.std.proofs.Common.{◌≡◌, ◌++◌, drop}
use Rattle.std.specs.List.{filter}
use Rattle.wh_moment.specs.Upstream.{stands_below}
use Rattle.wh_dynamic.specs.View.{dynamics_in}
use Rattle.wh_dynamic.proofs.reached.those_below.Given as goal

abbrev pub invariant-loop-id : goal.invariant-loop-id
invariant-loop-id l =
    l.below.items ++ filter (stands_below (dynamics_in l.all) l.target) (drop l.id-index l.ids)
    ≡ filter (stands_below (dynamics_in l.all) l.target) l.ids
