use Rattle.std.proofs.Common.{◌≡◌}
use Rattle.wh_catalog.specs.Catalog.{kept_of}
use Rattle.wh_catalog.specs.Undo.{undone}
use Rattle.wh_catalog.proofs.catalog.Catalog.take_back_all.Given as goal

abbrev pub invariant-loop-step : goal.invariant-loop-step
invariant-loop-step l = (undone l.steps.items (kept_of l.self) ≡ undone l.initial.steps.items (kept_of l.initial.self))
    × (l.self.last ≡ l.initial.self.last)
    × (l.self.committed ≡ l.initial.self.committed)

abbrev pub decreases-loop-step : goal.decreases-loop-step
decreases-loop-step l = goal.left-loop-step l
