use Rattle.std.proofs.Common.{◌∙◌, ap}
use Rattle.std.specs.FinMap.{from_entries}
use Rattle.wh_group.specs.Slots.{groups_of_slots}
use Rattle.wh_group.proofs.SlotLaws.{kept-none}
use Rattle.wh_group.proofs.groups.Groups.new.Goals as goal

pub returns-clause-groups : goal.returns-clause-groups
returns-clause-groups c = ap (λ es. groups_of_slots (from_entries es)) c.new.ensures.empty ∙ kept-none
