use Rattle.std.proofs.Common.{◌≡◌, drop}
use Rattle.wh_group.specs.Slots.{slots_of, settle_slots}
use Rattle.wh_group.proofs.groups.Groups.settle_each.Given as goal

abbrev pub invariant-loop-entry : goal.invariant-loop-entry
invariant-loop-entry l =
    settle_slots (drop l.entry-index l.was) (slots_of l.self) ≡ settle_slots l.was (slots_of l.initial.self)
