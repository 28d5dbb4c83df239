use Rattle.std.proofs.Common.{◌≡◌, ◌++◌, map, take, drop}
use Rattle.wh_version.specs.Lasting.{stands_again}
use Rattle.wh_version.proofs.popping.stand_again.Given as goal

abbrev pub invariant-loop-one : goal.invariant-loop-one
invariant-loop-one l =
    l.kept ≡ map (stands_again l.place) (take l.one-index l.initial.kept) ++ drop l.one-index l.initial.kept
