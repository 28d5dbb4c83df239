use Rattle.std.proofs.Common.{◌≡◌, Some}
use Rattle.wh_workers.specs.Joined.{joined_of}
use Rattle.wh_workers.proofs.parts.joined.Given as goal

abbrev pub invariant-loop-piece : goal.invariant-loop-piece
invariant-loop-piece g l = joined_of l.yielded ≡ Some l.answers.items
