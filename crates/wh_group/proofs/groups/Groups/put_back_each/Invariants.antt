use Rattle.std.proofs.Common.{◌≡◌}
use Rattle.wh_group.specs.Slots.{slots_of, put_slots}
use Rattle.wh_group.proofs.groups.Groups.put_back_each.Given as goal

abbrev pub invariant-loop-entry : goal.invariant-loop-entry
invariant-loop-entry l =
    put_slots l.was.items (slots_of l.self) ≡ put_slots l.initial.was.items (slots_of l.initial.self)

abbrev pub decreases-loop-entry : goal.decreases-loop-entry
decreases-loop-entry l = goal.left-loop-entry l
