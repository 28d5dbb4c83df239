use Rattle.std.proofs.Common.{◌≡◌, true, refl, ◌∙◌, sym, subst}
use Rattle.std.proofs.lemmas.Bool.{false≢true}
use Rattle.wh_state.specs.State.{dropped}
use Rattle.wh_state.specs.Commit.{IsLiveObject}
use Rattle.wh_catalog.proofs.Dropped.{without_life, revived}
use Rattle.wh_catalog.proofs.Names.{keeps_names}
use Rattle.wh_catalog.proofs.Places.{stands, changed}
use Rattle.wh_catalog.proofs.dropping.drop_object.Goals as goal

pub returns-then-not-object-clause-not_applicable : goal.returns-then-not-object-clause-not_applicable
returns-then-not-object-clause-not_applicable c = λ _ lives.
    let live : c.index_mut-object.result.now.is_live ≡ true =
    subst IsLiveObject (stands c.in-Some.ensures.found c.index_mut-object.ensures.value) lives in
    absurd (false≢true (sym c.if-not-object.true ∙ live))

pub returns-clause-applies : goal.returns-clause-applies
returns-clause-applies c =
    subst IsLiveObject (sym (stands c.in-Some.ensures.found c.index_mut-object.ensures.value)) c.if-not-object.false

pub returns-clause-changed : goal.returns-clause-changed
returns-clause-changed c =
    changed c.in-Some.ensures.found c.index_mut-object.ensures.value
    (without_life c.index_mut-object.result.now) dropped refl

pub returns-clause-back : goal.returns-clause-back
returns-clause-back c =
    revived c.in-Some.ensures.found c.index_mut-object.ensures.value
    c.if-not-object.false c.requires.live c.requires.last

pub returns-clause-names : goal.returns-clause-names
returns-clause-names c =
    keeps_names c.in-Some.ensures.found c.index_mut-object.ensures.value
    (without_life c.index_mut-object.result.now) refl (λ _ live. absurd (false≢true live))
