use Rattle.std.proofs.Common.{[], subst}
use Rattle.std.proofs.lemmas.Result.{IfOk-weaker}
use Rattle.wh_effect.specs.Effect as effects
use Rattle.wh_bound_change.specs.View.{change_of}
use Rattle.wh_dml.specs.View.{Gives}
use Rattle.wh_machine.specs.Changes.{rows_seen}
use Rattle.wh_decide.specs.Sources.{IsTarget}
use Rattle.wh_decide.proofs.ChangeLemmas.{unseen}
use Rattle.wh_decide.proofs.effects.effect_on.Goals as goal

pub returns-in-Some-clause-gives : goal.returns-in-Some-clause-gives
returns-in-Some-clause-gives g c = λ shown.
    IfOk-weaker c.effect_to.result _ _ (λ found is. λ t target.
    is t (subst (IsTarget (change_of c.args.change.now) t) c.in-Some.is target)) (c.effect_to.ensures.gives shown)

pub returns-in-None-clause-gives : goal.returns-in-None-clause-gives
returns-in-None-clause-gives g c = λ shown.
    let change = change_of c.args.change.now in
    IfOk-weaker c.effect.result _ _ (λ found is. λ t target.
    subst (λ (meant : effects.EffectResult). Gives found meant)
    (unseen change (rows_seen t) _ (subst (IsTarget change t) c.in-None.is target)) is) (c.effect.ensures.gives shown)
