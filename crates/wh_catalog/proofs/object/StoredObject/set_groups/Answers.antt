use Rattle.std.proofs.Common.{◌≡◌, ◌∙◌, Option, Some, sym, ap, subst}
use Rattle.std.specs.Prelude.{IsSomeAnd}
use Rattle.wh_state.specs.State.{dynamic_in}
use Rattle.wh_state.specs.Dynamic.{Dynamic}
use Rattle.wh_state.specs.Commit.{TakesGroups}
use Rattle.wh_dynamic.specs.View.{groups_change_of, dynamic_of}
use Rattle.wh_catalog.specs.Object.{stored_kind}
use Rattle.wh_catalog.proofs.DynamicConditions.{never_both, Decides-takes_groups}
use Rattle.wh_catalog.proofs.object.StoredObject.set_groups.Goals as goal

pub returns-then-not-takes_groups-clause-not_applicable : goal.returns-then-not-takes_groups-clause-not_applicable
returns-then-not-takes_groups-clause-not_applicable c = λ _ fits.
    let change = groups_change_of c.args.groups in
    let P : Option Dynamic → Type 0 = λ found. IsSomeAnd found (λ d. IsSomeAnd d.kept (TakesGroups change)) in
    let takes = subst P (ap (λ k. dynamic_in (stored_kind k)) c.in-Dynamic.is) fits.1 in
    let yes = (Decides-takes_groups change (dynamic_of c.in-Dynamic.dynamic)).1 takes in
    never_both c.takes_groups.result c.if-not-takes_groups.true (c.takes_groups.ensures ∙ yes)

pub returns-in-Ok-clause-applies : goal.returns-in-Ok-clause-applies
returns-in-Ok-clause-applies c =
    let change = groups_change_of c.args.groups in
    let P : Option Dynamic → Type 0 = λ found. IsSomeAnd found (λ d. IsSomeAnd d.kept (TakesGroups change)) in
    let takes = (Decides-takes_groups change (dynamic_of c.in-Dynamic.dynamic)).0
    (sym c.takes_groups.ensures ∙ c.if-not-takes_groups.false) in
    (c.if-not-self.false, subst P (sym (ap (λ k. dynamic_in (stored_kind k)) c.in-Dynamic.is)) takes)
