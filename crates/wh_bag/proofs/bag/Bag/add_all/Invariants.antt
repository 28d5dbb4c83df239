use Rattle.std.proofs.Common.{◌≡◌}
use Rattle.std.specs.FinMap.{entries}
use Rattle.wh_meaning.specs.BagChange.{IsWithin}
use Rattle.wh_bag.proofs.Sum.{summed}
use Rattle.wh_bag.proofs.bag.Bag.add_all.Given as goal

abbrev pub invariant-loop-row : goal.invariant-loop-row
invariant-loop-row l = (summed l.initial.self (entries l.other) ≡ summed l.self l.row-iterator)
    × (IsWithin l.initial.self → IsWithin l.self)
