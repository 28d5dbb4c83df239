use Rattle.std.proofs.Common.{◌≡◌, ◌++◌}
use Rattle.wh_delta.proofs.linear.appended.Given as goal

abbrev pub invariant-loop-row : goal.invariant-loop-row
invariant-loop-row l = l.all.items ≡ l.initial.all.items ++ l.yielded
