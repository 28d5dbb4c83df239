use Rattle.wh_version.proofs.Places.{Adjacent}
use Rattle.wh_version.proofs.searching.rises.Given as goal

abbrev pub invariant-loop-place : goal.invariant-loop-place
invariant-loop-place l = Adjacent l.list l.place
