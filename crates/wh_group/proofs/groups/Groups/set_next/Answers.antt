use Rattle.std.proofs.Common.{◌≡◌, ◌∙◌, [], ◌∷◌, ◌++◌, ap, sym, rules}
use Rattle.wh_group.specs.Slots.{slots_of, put_slots}
use Rattle.wh_group.proofs.SlotLaws.{put_slots-push}
use Rattle.wh_group.proofs.groups.Groups.set_next.Goals as goal

pub returns-clause-was : goal.returns-clause-was
returns-clause-was c =
    let was = c.args.was.now.items in
    let before = c.in_ok-before.before in
    let items : c.push.new.self.items ≡ was ++ before ∷ [] = search rules in
    ap (λ es. put_slots es (slots_of c.set.new.self)) items
    ∙ put_slots-push was before (slots_of c.set.new.self)
    ∙ ap (put_slots was) (sym c.in_ok-before.ensures.was)
