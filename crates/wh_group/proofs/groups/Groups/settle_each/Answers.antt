use Rattle.std.proofs.Common.{◌∙◌, ap, sym}
use Rattle.std.proofs.lemmas.List.{drop_all}
use Rattle.wh_group.specs.Slots.{slots_of, groups_of_slots, settle_slots}
use Rattle.wh_group.proofs.SlotLaws.{kept-settled_all}
use Rattle.wh_group.proofs.groups.Groups.settle_each.Goals as goal

pub returns-clause-groups : goal.returns-clause-groups
returns-clause-groups c =
    let at = c.loop-entry in
    let was = c.args.was.now in
    ap groups_of_slots
    (ap (λ es. settle_slots es (slots_of at.self)) (sym (drop_all at.entry-index was c.loop-entry-test.false))
    ∙ at.invariant)
    ∙ kept-settled_all was (slots_of c.args.self.now)
