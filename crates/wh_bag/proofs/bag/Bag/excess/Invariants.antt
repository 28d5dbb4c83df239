use Rattle.std.proofs.Common.{◌≡◌}
use Rattle.std.specs.FinMap.{entries}
use Rattle.wh_meaning.specs.Bag.{no_rows}
use Rattle.wh_meaning.specs.BagChange.{IsWithin}
use Rattle.wh_bag.specs.Walk.{excess}
use Rattle.wh_bag.proofs.bag.Bag.excess.Given as goal

abbrev pub invariant-loop-row : goal.invariant-loop-row
invariant-loop-row l = (excess l.other (entries l.self) no_rows ≡ excess l.other l.row-iterator l.more)
    × IsWithin l.more
