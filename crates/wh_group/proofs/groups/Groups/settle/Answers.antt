use Rattle.std.proofs.Common.{◌∙◌, ap, sym}
use Rattle.wh_group.specs.Slots.{slots_of, groups_of_slots}
use Rattle.wh_group.proofs.MapLaws.{gone_after}
use Rattle.wh_group.proofs.SlotLaws.{get-kept, none_copied, some_copied, settled_gone, settled_there, kept-settled}
use Rattle.wh_group.proofs.groups.Groups.settle.Goals.{Joined-remove}
use Rattle.wh_group.proofs.groups.Groups.settle.Goals as goal

pub returns-then-is_none-clause-slots : goal.returns-then-is_none-clause-slots
returns-then-is_none-clause-slots c =
    let slots = slots_of c.args.self.now in
    let key = c.args.key.now in
    gone_after c.args.self.now.map.entries c.remove.new.self.entries key c.remove.ensures.updates.0
    ∙ settled_gone slots key
    (sym (get-kept slots key) ∙ sym c.get.ensures ∙ none_copied c.get.result c.if-is_none.ensures)

pub returns-then-is_none-clause-groups : goal.returns-then-is_none-clause-groups
returns-then-is_none-clause-groups c =
    ap groups_of_slots (returns-then-is_none-clause-slots c)
    ∙ kept-settled (slots_of c.args.self.now) c.args.key.now

pub returns-else-is_none-clause-slots : goal.returns-else-is_none-clause-slots
returns-else-is_none-clause-slots c =
    let slots = slots_of c.args.self.now in
    let key = c.args.key.now in
    let there = some_copied c.get.result c.if-is_none.ensures in
    settled_there slots key there.0 (sym (get-kept slots key) ∙ sym c.get.ensures ∙ there.1)
