use Rattle.std.proofs.Common.{◌≡◌, ◌∙◌, ap, sym, subst}
use Rattle.std.specs.FinMap.{entries}
use Rattle.wh_value.specs.Order.{row_total}
use Rattle.wh_meaning.specs.Bag.{plus}
use Rattle.wh_meaning.proofs.KeyMaps.{entries_in_order}
use Rattle.wh_aggregate.specs.Groups.{AreOver}
use Rattle.wh_aggregate.proofs.JoinLemmas.{with_groups, with_all, both_over}
use Rattle.wh_aggregate.proofs.groups.Groups.join.Goals as goal

pub returns : goal.returns
returns c = λ by calls b d over behind.
    let at = c.loop-key in
    let given = c.into_iter-key-iterator.ensures.into_iter_gives in
    let all : entries c.args.other ≡ c.into_iter-key-iterator.result =
    ap entries (sym c.other.view_is) ∙ entries_in_order row_total c.other.inside.map.entries given.5 ∙ sym given.0 in
    let joined : with_all c.args.other c.args.self.now ≡ at.self =
    ap (λ es. with_groups es c.args.self.now) all
    ∙ at.invariant
    ∙ ap (λ es. with_groups es at.self) c.in-None.ensures.steps.0 in
    subst (AreOver by calls (plus b d)) joined (both_over by calls b d c.args.self.now c.args.other over behind)
