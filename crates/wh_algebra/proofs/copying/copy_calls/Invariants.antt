use Rattle.std.proofs.Common.{◌≡◌, take}
use Rattle.wh_algebra.specs.View.{calls_of}
use Rattle.wh_algebra.proofs.copying.copy_calls.Given as goal

abbrev pub invariant-loop-call : goal.invariant-loop-call
invariant-loop-call l = calls_of l.copies ≡ calls_of (take l.call-index l.calls)
