use Rattle.std.proofs.Common.{◌≡◌, ◌-◌, ◌++◌, reverse}
use Rattle.wh_moment.specs.Upstream.{reached_from}
use Rattle.wh_dynamic.specs.View.{dynamics_in}
use Rattle.wh_dynamic.proofs.reached.reached_below.Given as goal

-- those still to be found stand before those found, from the last one back
abbrev pub invariant-loop-below : goal.invariant-loop-below
invariant-loop-below l = reached_from (dynamics_in l.all) (l.below - 1) l.ids.items ++ reverse l.found.items
    ≡ reached_from (dynamics_in l.all) (l.id - 1) l.reads

abbrev pub decreases-loop-below : goal.decreases-loop-below
decreases-loop-below l = l.below
