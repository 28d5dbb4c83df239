use Rattle.std.proofs.Common.{◌≡◌, ◌≤◌, length, take, Some}
use Rattle.wh_meaning.specs.Bag.{bag_of}
use Rattle.wh_algebra.specs.Tuple.{rows_in}
use Rattle.wh_exec.specs.Step.{through}
use Rattle.wh_exec.proofs.pouring.walked.Given as goal

abbrev pub decreases-loop-ahead : goal.decreases-loop-ahead
decreases-loop-ahead g l = l.ahead

abbrev pub invariant-loop-ahead : goal.invariant-loop-ahead
invariant-loop-ahead g l = record {
  within : l.ahead ≤ length l.steps;
  left : through (take l.ahead l.steps) (Some (bag_of (rows_in l.found.items)))
      ≡ through l.steps (Some (bag_of (rows_in l.initial.found.items)));
}
