use Rattle.std.proofs.Common.{◌≡◌, ◌≤◌, length, drop}
use Rattle.std.specs.Prelude.{Some}
use Rattle.wh_algebra.specs.View.{calls_of, scalars_of}
use Rattle.wh_group.specs.Moves.{added}
use Rattle.wh_group.proofs.touched.Touched.add.Given as goal

abbrev pub invariant-loop-left : goal.invariant-loop-left
invariant-loop-left l = record {
  in_range : l.left ≤ length l.rows;
  so_far : added l.side (scalars_of l.by) (calls_of l.calls) l.initial.self (drop l.left l.rows) ≡ Some l.self;
}

abbrev pub decreases-loop-left : goal.decreases-loop-left
decreases-loop-left l = l.left
