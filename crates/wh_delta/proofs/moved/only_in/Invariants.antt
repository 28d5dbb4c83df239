use Rattle.std.proofs.Common.{◌≡◌, take}
use Rattle.wh_filed.specs.Filed.{filed_at}
use Rattle.wh_delta.specs.Moved.{only_in}
use Rattle.wh_delta.proofs.moved.only_in.Given as goal

abbrev pub invariant-loop-one : goal.invariant-loop-one
invariant-loop-one l = filed_at l.found.items ≡ only_in (filed_at (take l.one-index l.some)) (filed_at l.others)
