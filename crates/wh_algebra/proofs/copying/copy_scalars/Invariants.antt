use Rattle.std.proofs.Common.{◌≡◌, take}
use Rattle.wh_algebra.specs.View.{scalars_of}
use Rattle.wh_algebra.proofs.copying.copy_scalars.Given as goal

abbrev pub invariant-loop-scalar : goal.invariant-loop-scalar
invariant-loop-scalar l = scalars_of l.copies ≡ scalars_of (take l.scalar-index l.scalars)
