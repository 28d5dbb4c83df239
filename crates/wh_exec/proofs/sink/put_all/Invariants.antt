use Rattle.std.proofs.Common.{◌≡◌, ◌++◌}
use Rattle.wh_algebra.specs.Tuple.{rows_in}
use Rattle.wh_exec.proofs.sink.put_all.Given as goal

abbrev pub invariant-loop-tuple : goal.invariant-loop-tuple
invariant-loop-tuple l = rows_in l.kept.items ≡ rows_in l.initial.kept.items ++ rows_in l.yielded
