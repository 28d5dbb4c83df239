use Rattle.std.proofs.Common.{◌≡◌, take}
use Rattle.wh_copy.proofs.parts.copy_all.Given as goal

abbrev pub invariant-loop-part : goal.invariant-loop-part
invariant-loop-part _ l = l.copies ≡ take l.part-index l.parts
