use Rattle.std.proofs.Common.{◌∙◌, sym}
use Rattle.wh_group.proofs.groups.Groups.set_each.Goals as goal

pub returns-in_default-clause-err : goal.returns-in_default-clause-err
returns-in_default-clause-err c =
    c.put_back_each.ensures ∙ c.in_default.ensures.was ∙ sym c.loop-entry.invariant.back
