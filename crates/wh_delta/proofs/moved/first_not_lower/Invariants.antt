use Rattle.wh_delta.specs.Moved.{LowerBefore}
use Rattle.wh_delta.proofs.moved.first_not_lower.Given as goal

abbrev pub invariant-loop-place : goal.invariant-loop-place
invariant-loop-place l = LowerBefore l.one l.others l.place
