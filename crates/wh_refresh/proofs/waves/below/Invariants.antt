use Rattle.std.proofs.Common.{◌≡◌, ◌≤◌, ◌-◌, ◌++◌, length, take, drop}
use Rattle.wh_refresh.specs.Waves.{front_below}
use Rattle.wh_refresh.proofs.waves.below.Given as goal

-- so many are in front
abbrev pub invariant-loop-end : goal.invariant-loop-end
invariant-loop-end l = record {
  within : l.end ≤ length l.brought;
  front : front_below l.id l.brought ≡ take l.end l.brought ++ front_below l.id (drop l.end l.brought);
}

abbrev pub decreases-loop-end : goal.decreases-loop-end
decreases-loop-end l = length l.brought - l.end
