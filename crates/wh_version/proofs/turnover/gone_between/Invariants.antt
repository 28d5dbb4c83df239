use Rattle.std.proofs.Common.{◌≡◌, take}
use Rattle.wh_filed.specs.Filed.{filed_at}
use Rattle.wh_version.specs.Lasting.{gone_filed}
use Rattle.wh_version.proofs.turnover.gone_between.Given as goal

abbrev pub invariant-loop-one : goal.invariant-loop-one
invariant-loop-one l = filed_at l.found.items ≡ gone_filed l.old l.new (take l.one-index l.kept)
