use Rattle.std.proofs.Common.{sym, ◌∙◌}
use Rattle.wh_meaning.specs.Query.{values_on}
use Rattle.wh_algebra.specs.View.{scalars_of}
use Rattle.wh_maintenance.specs.Delta.{key_among}
use Rattle.wh_delta.proofs.Chosen.{chosen_put, chosen_left}
use Rattle.wh_delta.proofs.group.choose.Goals as goal

pub returns-in_ok-push : goal.returns-in_ok-push
returns-in_ok-push c = λ seen so.
    chosen_put (λ row. key_among c.args.keys.now (values_on (scalars_of c.args.by.now) row)) seen _ _ _ so
    (sym c.in_ok-is_chosen.ensures ∙ c.if-branch.true) c.in_ok-push.ensures.items

pub returns-else-branch : goal.returns-else-branch
returns-else-branch c = λ seen so.
    chosen_left (λ row. key_among c.args.keys.now (values_on (scalars_of c.args.by.now) row)) seen _ _ so
    (sym c.in_ok-is_chosen.ensures ∙ c.if-branch.false)
