use Rattle.std.proofs.Common.{◌∙◌, ap, sym}
use Rattle.wh_group.specs.Slots.{slots_of, put_at, put_slot}
use Rattle.wh_group.proofs.MapLaws.{gone_after}
use Rattle.wh_group.proofs.groups.Groups.put_back.Goals as goal

pub returns : goal.returns
returns c =
    gone_after c.args.self.now.map.entries c.remove.new.self.entries c.was.inside.key c.remove.ensures.updates.0
    ∙ ap (put_at (slots_of c.args.self.now) c.was.inside.key) (sym c.in-None.is)
    ∙ ap (put_slot (slots_of c.args.self.now)) c.was.view_is
