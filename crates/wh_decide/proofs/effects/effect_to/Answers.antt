use Rattle.std.proofs.Common.{◌≡◌, ℕ, List, ap, subst, ◌∙◌}
use Rattle.std.proofs.lemmas.Result.{IfOk-weaker}
use Rattle.std.proofs.lemmas.List.Folds.{flat_map-map}
use Rattle.std.specs.FinMap.{entries}
use Rattle.wh_value.specs.Value.{Row}
use Rattle.wh_effect.specs.Effect.{EffectResult, effect}
use Rattle.wh_bound_change.specs.View.{change_of}
use Rattle.wh_state.specs.State.{last_rows}
use Rattle.wh_dml.specs.View.{Gives, targets_of}
use Rattle.wh_exec.specs.Source.{instance_in}
use Rattle.wh_txn.proofs.SparedLaws.{spared_effect}
use Rattle.wh_decide.proofs.effects.effect_to.Goals as goal

pub returns-clause-gives : goal.returns-clause-gives
returns-clause-gives g c = λ shown.
    let change = change_of c.args.change.now in
    let instance = instance_in c.args.sources.now in
    IfOk-weaker c.effect.result _ _ (λ found is. λ t there.
    let all = c.in_ok-partitions.ensures.rows there.rest there.holds in
    let rows : targets_of c.in_ok-partitions.partitions.items ≡ entries there.rest = rw flat_map-map at all in
    subst (λ (meant : EffectResult). Gives found meant)
    (spared_effect change (last_rows t) there.rest instance there.spares)
    (subst (λ (targets : List (ℕ × Row)). Gives found (effect change targets instance))
    (ap targets_of c.deref.ensures.value ∙ rows) is)) (c.effect.ensures.gives shown)
