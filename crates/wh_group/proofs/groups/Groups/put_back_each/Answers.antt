use Rattle.std.proofs.Common.{◌∙◌, ap, sym}
use Rattle.wh_group.specs.Slots.{slots_of, put_slots}
use Rattle.wh_group.proofs.SlotLaws.{put_slots-push}
use Rattle.wh_group.proofs.groups.Groups.put_back_each.Goals as goal

pub loop-entry-preserved : goal.loop-entry-preserved
loop-entry-preserved c =
    let at = c.loop-entry in
    let rest = c.pop.new.self.items in
    let entry = c.in-Some.entry in
    ap (put_slots rest) c.put_back.ensures
    ∙ sym (put_slots-push rest entry (slots_of at.self))
    ∙ ap (λ es. put_slots es (slots_of at.self)) (sym c.in-Some.ensures.items)
    ∙ at.invariant
