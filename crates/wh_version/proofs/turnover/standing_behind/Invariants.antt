use Rattle.std.proofs.Common.{◌≡◌, ◌++◌, take}
use Rattle.wh_filed.specs.Filed.{filed_at}
use Rattle.wh_version.specs.Lasting.{standing_filed}
use Rattle.wh_version.proofs.turnover.standing_behind.Given as goal

abbrev pub invariant-loop-index : goal.invariant-loop-index
invariant-loop-index l =
    standing_filed l.reach.place (take l.seen l.kept) ++ filed_at l.found.items
    ≡ standing_filed l.reach.place (take l.index l.kept)
