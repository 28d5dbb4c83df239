use Rattle.std.proofs.Common.{◌-◌, ◌≤◌, length, take}
use Rattle.wh_shell.specs.Writing.{Writes}
use Rattle.wh_shell.proofs.writing.write_all.Given as goal

abbrev pub invariant-pieces : goal.invariant-pieces
invariant-pieces g l = record {
  within : l.at ≤ length l.piece;
  written : Writes (take l.at l.piece) (g.K.Sink.held l.fn.out) (g.K.Sink.held l.out);
  later : g.K.Sink.faults l.fn.out ≤ g.K.Sink.faults l.out;
}

abbrev pub decreases-pieces : goal.decreases-pieces
decreases-pieces g l = length l.piece - l.at
