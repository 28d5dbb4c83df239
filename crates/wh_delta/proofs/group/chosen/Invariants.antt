use Rattle.std.proofs.Common.{◌≡◌}
use Rattle.wh_meaning.specs.Bag.{bag_of}
use Rattle.wh_algebra.specs.View.{scalars_of}
use Rattle.wh_maintenance.specs.Delta.{with_keys}
use Rattle.wh_delta.proofs.group.chosen.Given as goal

abbrev pub invariant-loop-row : goal.invariant-loop-row
invariant-loop-row l = bag_of l.kept.items ≡ with_keys (scalars_of l.by) l.keys (bag_of l.yielded)
