use Rattle.std.proofs.Common.{◌≡◌, ap, subst, ◌∙◌}
use Rattle.std.proofs.lemmas.Result.{IfOk-weaker}
use Rattle.wh_effect.specs.Effect.{effect}
use Rattle.wh_bound_change.specs.View.{change_of}
use Rattle.wh_dml.specs.View.{Gives}
use Rattle.wh_exec.specs.Source.{filed_in, instance_in}
use Rattle.wh_fetch.specs.DiskFetch.{told_of}
use Rattle.wh_filed.specs.Filed.{AllShown}
use Rattle.wh_meaning.specs.Query.{Instance}
use Rattle.wh_machine.specs.Changes.{rows_seen}
use Rattle.wh_machine.specs.Reading.{instance_read}
use Rattle.wh_decide.specs.Sight.{machine_in}
use Rattle.wh_decide.specs.Sources.{bags_seen}
use Rattle.wh_decide.proofs.ReadyLemmas.{still_shown}
use Rattle.wh_decide.proofs.SourceLemmas.{sources_shown}
use Rattle.wh_decide.proofs.effects.effect_seen.Goals as goal

pub returns-clause-gives : goal.returns-clause-gives
returns-clause-gives g c = λ shown.
    let sight = c.args.sight.now in
    let read : instance_in c.deref-3.result.now
    ≡ instance_read (machine_in sight) sight.session c.args.bound.now.sources.items =
    ap instance_in c.deref-3.ensures.value ∙ c.in_ok-sources.ensures.rows ∙ ap bags_seen c.deref-2.ensures.value
    ∙ c.in_ok-seen.ensures.seen (still_shown sight c.in_ok-target.ensures.same shown)
    ∙ ap (instance_read (machine_in sight) sight.session) c.deref.ensures.value in
    IfOk-weaker c.effect_on.result _ _ (λ found is. λ t there.
    subst (λ (i : Instance). Gives found (effect (change_of c.args.bound.now.change) (rows_seen t) i)) read
    (is t (c.in_ok-target.ensures.seen shown t there)))
    (c.effect_on.ensures.gives (sources_shown sight _ _ _ _ _ _
    (c.in_ok-seen.ensures.same ∙ c.in_ok-target.ensures.same) c.deref-2.ensures.value c.in_ok-sources.ensures.filed
    c.deref-3.ensures.value c.in_ok-seen.ensures.among shown))

pub returns-clause-sound : goal.returns-clause-sound
returns-clause-sound g c = λ shown.
    let sight = c.args.sight.now in
    c.effect_on.ensures.sound (sources_shown sight _ _ _ _ _ _
    (c.in_ok-seen.ensures.same ∙ c.in_ok-target.ensures.same) c.deref-2.ensures.value c.in_ok-sources.ensures.filed
    c.deref-3.ensures.value c.in_ok-seen.ensures.among shown)
    ∙ c.in_ok-seen.ensures.sound (still_shown sight c.in_ok-target.ensures.same shown)
    ∙ c.in_ok-target.ensures.sound shown

pub returns-in_err-seen-clause-sound : goal.returns-in_err-seen-clause-sound
returns-in_err-seen-clause-sound g c = λ shown.
    c.in_err-seen.ensures.sound (still_shown c.args.sight.now c.in_ok-target.ensures.same shown)
    ∙ c.in_ok-target.ensures.sound shown

pub returns-in_err-sources-clause-sound : goal.returns-in_err-sources-clause-sound
returns-in_err-sources-clause-sound g c = λ shown.
    c.in_ok-seen.ensures.sound (still_shown c.args.sight.now c.in_ok-target.ensures.same shown)
    ∙ c.in_ok-target.ensures.sound shown
