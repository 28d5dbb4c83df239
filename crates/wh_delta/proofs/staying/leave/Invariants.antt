use Rattle.wh_delta.specs.Walk.{Stays}
use Rattle.wh_delta.proofs.staying.leave.Given as goal

abbrev pub invariant-loop-row : goal.invariant-loop-row
invariant-loop-row l = Stays l.goes l.yielded l.kept.items l.met
