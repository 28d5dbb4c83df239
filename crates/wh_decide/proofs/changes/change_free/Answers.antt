use Rattle.std.proofs.Common.{◌≡◌, ℕ, Some, None, Result, Err, refl, ap, sym, subst, ◌∙◌}
use Rattle.std.specs.Result.{IfOk}
use Rattle.wh_value.specs.Value.{Row}
use Rattle.wh_effect.specs.Effect as effects
use Rattle.wh_effect.specs.Effect.{effect, Undefined, Ambiguous}
use Rattle.wh_bound_change.specs.View.{change_of}
use Rattle.wh_dml.specs.View.{effect_of, Gives}
use Rattle.wh_dml.specs.declared.fault.EffectFault.{EffectFault}
use Rattle.wh_dml.specs.declared.target.Effect.{Effect}
use Rattle.wh_reply.specs.Reply.{TypeMismatch, NumberOutOfRange, AmbiguousMerge}
use Rattle.wh_reply.specs.declared.reply.Refusal.TheVariants as refused
use Rattle.wh_state.specs.State.{Table}
use Rattle.wh_state.specs.Objects.{table_at}
use Rattle.wh_machine.specs.Changes.{rows_seen}
use Rattle.wh_state.specs.Stored.{Stored, table_meant}
use Rattle.wh_machine.specs.Sessions.{Sessions, transaction_in}
use Rattle.wh_machine.specs.Outcome.{Outcome, Refuses}
use Rattle.wh_machine.specs.Reading.{instance_read}
use Rattle.wh_catalog.specs.Catalog.{stored_of}
use Rattle.wh_table.specs.Table.{table_of}
use Rattle.wh_txn.specs.View.{sessions_of}
use Rattle.wh_decide.specs.declared.decision.Decision.TheVariants.{Refuse}
use Rattle.wh_decide.specs.Decision.{Decides}
use Rattle.wh_decide.specs.Sight.{machine_in, objects_seen, Comes}
use Rattle.wh_decide.proofs.CatalogLemmas.{table_there, table_missing}
use Rattle.wh_decide.proofs.OutcomeLemmas.{declines}
use Rattle.wh_decide.proofs.ReadyLemmas.{still_shown}
use Rattle.wh_decide.proofs.SeenLemmas.{seen_there, seen_missing}
use Rattle.wh_decide.proofs.ChangeLemmas.{no_table, outcome_is, fails_as}
use Rattle.wh_decide.proofs.changes.change_free.Given.{Over}
use Rattle.wh_decide.proofs.changes.change_free.Goals.{In-Some}
use Rattle.wh_decide.proofs.changes.change_free.Goals as goal

-- the target's table, as the session sees it
target : (g : Over) (c : In-Some g)
    → (t : Table) × (table_at (objects_seen c.args.sight.now) c.args.bound.now.target ≡ Some t)
target g c =
    let sight = c.args.sight.now in
    let m = machine_in sight in
    let id = c.args.bound.now.target in
    let table = table_of c.in-Some.table.now in
    seen_there m.state (transaction_in m.sessions sight.session) id (table_meant table)
    (table_there sight.catalog.now id table (sym c.in-Some.ensures.table))

-- what is found, as it says what effect is meant
gives : (meant : effects.EffectResult) {found at : Result Effect EffectFault} → found ≡ at → Gives found meant
    → Gives at meant
gives meant is = subst (λ (r : Result Effect EffectFault). Gives r meant) is

-- a row that a fault tells, as it is meant
ambiguous : (s : Stored) (sessions : Sessions) (stamp : ℕ) (row meant : Row) (o : Outcome) → row ≡ meant
    → o ≡ Refuses (AmbiguousMerge meant) → Decides s sessions stamp (Refuse (refused.AmbiguousMerge row)) o
ambiguous s sessions stamp row meant o is same =
    declines s sessions stamp (refused.AmbiguousMerge row) o (AmbiguousMerge meant) (ap AmbiguousMerge is) same

pub returns-in_default-clause-comes : goal.returns-in_default-clause-comes
returns-in_default-clause-comes g c = λ shown.
    let sight = c.args.sight.now in
    let m = machine_in sight in
    let b = c.args.bound.now in
    let missing : table_at (objects_seen sight) b.target ≡ None =
    seen_missing m.state (transaction_in m.sessions sight.session) b.target
    (table_missing sight.catalog.now b.target (sym c.in_default.ensures.table)) in
    declines (stored_of sight.catalog.now) (sessions_of sight.sessions.now) sight.stamp
    refused.TypeMismatch _ TypeMismatch refl
    (no_table m sight.session c.args.streams.items b missing)

pub returns-in-Ok-clause-comes : goal.returns-in-Ok-clause-comes
returns-in-Ok-clause-comes g c = λ shown.
    let sight = c.args.sight.now in
    let v = target g (goal.at.returns-in-Ok-clause-comes g c).In-Some in
    subst (λ (o : Outcome). IfOk c.settle.result (λ d. Comes sight d o))
    (sym (outcome_is (machine_in sight) sight.session c.args.streams.items c.args.bound.now v.0
    (effects.Does (effect_of c.in-Ok.effect)) v.1 (gives _ c.in-Ok.is (c.in_ok-effect.ensures.gives shown v.0 v.1))))
    (c.settle.ensures.comes (still_shown sight c.in_ok-effect.ensures.same shown))

pub returns-in-Err-NumberOutOfRange-clause-comes : goal.returns-in-Err-NumberOutOfRange-clause-comes
returns-in-Err-NumberOutOfRange-clause-comes g c = λ shown.
    let sight = c.args.sight.now in
    let m = machine_in sight in
    let b = c.args.bound.now in
    let v = target g (goal.at.returns-in-Err-NumberOutOfRange-clause-comes g c).In-Some in
    let comes : effect (change_of b.change) (rows_seen v.0)
    (instance_read m sight.session b.sources.items) ≡ Undefined =
    gives _ (c.in-Err-NumberOutOfRange.is ∙ ap Err c.in-Err-NumberOutOfRange.field-0-is)
    (c.in_ok-effect.ensures.gives shown v.0 v.1) in
    declines (stored_of sight.catalog.now) (sessions_of sight.sessions.now) sight.stamp
    refused.NumberOutOfRange _ NumberOutOfRange refl
    (fails_as m sight.session c.args.streams.items b v.0 Undefined NumberOutOfRange v.1 comes refl)

pub returns-in-Err-AmbiguousMerge-clause-comes : goal.returns-in-Err-AmbiguousMerge-clause-comes
returns-in-Err-AmbiguousMerge-clause-comes g c = λ shown.
    let sight = c.args.sight.now in
    let m = machine_in sight in
    let b = c.args.bound.now in
    let row = c.in-Err-AmbiguousMerge.row in
    let v = target g (goal.at.returns-in-Err-AmbiguousMerge-clause-comes g c).In-Some in
    let comes : effect (change_of b.change) (rows_seen v.0)
    (instance_read m sight.session b.sources.items) ≡ Ambiguous row =
    gives _ (c.in-Err-AmbiguousMerge.is ∙ ap Err c.in-Err-AmbiguousMerge.field-0-is)
    (c.in_ok-effect.ensures.gives shown v.0 v.1) in
    ambiguous (stored_of sight.catalog.now) (sessions_of sight.sessions.now) sight.stamp _ row _
    c.in-Err-AmbiguousMerge.row-is
    (fails_as m sight.session c.args.streams.items b v.0 (Ambiguous row) (AmbiguousMerge row) v.1 comes refl)
