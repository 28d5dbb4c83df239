use Rattle.std.proofs.Common.{◌≡◌, ◌++◌, drop}
use Rattle.wh_dml.specs.Steps.{either}
use Rattle.wh_dml.proofs.met.flags_of_both.Given as goal

abbrev pub invariant-loop-place : goal.invariant-loop-place
invariant-loop-place l =
    either l.flags l.others ≡ l.both.items ++ either (drop l.place l.flags) (drop l.place l.others)
