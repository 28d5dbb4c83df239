use Rattle.std.proofs.Common.{◌||◌, map, get_or, sym, ◌∙◌}
use Rattle.std.proofs.lemmas.Bool.{OnFalse_from}
use Rattle.wh_scalar.specs.View.{scalar_of}
use Rattle.wh_part.specs.Holding.{sides_of, columns_of, may_be}
use Rattle.wh_part.proofs.Rejected.{rejected}
use Rattle.wh_part.proofs.Within.{within_meta}
use Rattle.wh_part.proofs.meta.PartMeta.may_hold.Goals as goal

pub returns-else-may_fail-clause-rule : goal.returns-else-may_fail-clause-rule
returns-else-may_fail-clause-rule c =
    let plain = sym c.if-may_fail.false ∙ c.may_fail.ensures in
    c.may_be.ensures
    ∙ (λ i. plain i || may_be (map sides_of (c.deref.ensures.value i)) (scalar_of c.args.condition.now))

pub returns-else-may_fail-clause-rejected : goal.returns-else-may_fail-clause-rejected
returns-else-may_fail-clause-rejected c = OnFalse_from c.may_be.result _ (λ none p is i e inside.
    rejected (columns_of c.args.self.now) (get_or p.rows i e).1 (scalar_of c.args.condition.now)
    (within_meta c.args.self.now p is i e inside) (sym (returns-else-may_fail-clause-rule c) ∙ none))
