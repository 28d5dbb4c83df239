use Rattle.wh_delta.proofs.Rising.{StepsUp}
use Rattle.wh_delta.proofs.moved.rises.Given as goal

abbrev pub invariant-loop-place : goal.invariant-loop-place
invariant-loop-place l = StepsUp l.partitions l.place
