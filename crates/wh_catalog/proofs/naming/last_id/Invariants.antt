use Rattle.std.proofs.Common.{◌≡◌, ◌≤◌, take, length}
use Rattle.wh_catalog.specs.Names.{last_place, names_of}
use Rattle.wh_catalog.proofs.naming.last_id.Given as goal

abbrev pub invariant-loop-left : goal.invariant-loop-left
invariant-loop-left l = record {
  bounded : l.left ≤ length l.objects;
  seen : last_place l.name (names_of (take l.left l.objects)) ≡ last_place l.name (names_of l.objects);
}

abbrev pub decreases-loop-left : goal.decreases-loop-left
decreases-loop-left l = l.left
