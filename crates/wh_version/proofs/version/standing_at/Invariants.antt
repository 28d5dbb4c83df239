use Rattle.std.proofs.Common.{◌≡◌, take}
use Rattle.wh_filed.specs.Filed.{filed_at}
use Rattle.wh_version.specs.Lasting.{standing_filed}
use Rattle.wh_version.proofs.version.standing_at.Given as goal

abbrev pub invariant-loop-one : goal.invariant-loop-one
invariant-loop-one l = filed_at l.found.items ≡ standing_filed l.place (take l.one-index l.kept)
