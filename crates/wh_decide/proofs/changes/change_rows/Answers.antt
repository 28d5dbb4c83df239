use Rattle.std.proofs.Common.{◌≡◌, ℕ, List, ◌∷◌, Option, option_map, refl, ap, sym, subst, ◌∙◌}
use Rattle.std.specs.Result.{IfOk}
use Rattle.wh_reply.specs.Reply.{Locked}
use Rattle.wh_reply.specs.View.{refusal_view}
use Rattle.wh_reply.specs.declared.reply.Refusal.{Refusal}
use Rattle.wh_reply.specs.declared.reply.Refusal.TheVariants as refused
use Rattle.wh_machine.specs.Offsets.{streams_among}
use Rattle.wh_machine.specs.Sessions.{first_locked}
use Rattle.wh_machine.specs.Outcome.{Outcome}
use Rattle.wh_catalog.specs.Catalog.{stored_of}
use Rattle.wh_txn.specs.View.{sessions_of}
use Rattle.wh_decide.specs.Sight.{machine_in, Comes}
use Rattle.wh_decide.specs.Sources.{sources_refusal}
use Rattle.wh_decide.proofs.OutcomeLemmas.{declines}
use Rattle.wh_decide.proofs.ReadingLemmas.{found_read}
use Rattle.wh_decide.proofs.ReadyLemmas.{nothing_ready}
use Rattle.wh_decide.proofs.ChangeLemmas.{is_unread, is_held, is_free}
use Rattle.wh_decide.proofs.changes.change_rows.Given.{Over}
use Rattle.wh_decide.proofs.changes.change_rows.Goals.{In_ok-why, In_ok-streams}
use Rattle.wh_decide.proofs.changes.change_rows.Goals as goal

read : (g : Over) (c : In_ok-why g) (found : Option Refusal) → c.in_ok-why.field-0 ≡ found
    → sources_refusal (machine_in c.args.sight.now) c.args.bound.now.is_wide c.args.bound.now.sources.items
    ≡ option_map refusal_view found
read g c found at =
    found_read (machine_in c.args.sight.now) c.args.bound.now.is_wide _ _ _ found c.deref.ensures.value
    c.in_ok-why.ensures at

-- the streams that it reads
among : (g : Over) (c : In_ok-streams g) → c.in_ok-streams.streams.items
    ≡ streams_among (machine_in c.args.sight.now).state.objects c.args.bound.now.sources.items
among g c = c.in_ok-streams.ensures
    ∙ ap (λ (ids : List ℕ). streams_among (machine_in c.args.sight.now).state.objects ids) c.deref-2.ensures.value

pub returns-in-Some-clause-comes : goal.returns-in-Some-clause-comes
returns-in-Some-clause-comes g c = λ shown.
    let sight = c.args.sight.now in
    let why = refusal_view c.in-Some.why in
    declines (stored_of sight.catalog.now) (sessions_of sight.sessions.now) sight.stamp _ _ why refl
    (is_unread (machine_in sight) sight.session c.args.bound.now why
    (read g (goal.at.returns-in-Some-clause-comes g c).In_ok-why _ c.in-Some.is))

pub returns-in-Some-first_locked-clause-comes : goal.returns-in-Some-first_locked-clause-comes
returns-in-Some-first_locked-clause-comes g c = λ shown.
    let sight = c.args.sight.now in
    let m = machine_in sight in
    let b = c.args.bound.now in
    let number = c.in-Some-first_locked.number in
    declines (stored_of sight.catalog.now) (sessions_of sight.sessions.now) sight.stamp
    (refused.Locked number) _ (Locked number) refl
    (is_held m sight.session b c.in_ok-streams.streams.items number
    (read g (goal.at.returns-in-Some-first_locked-clause-comes g c).In_ok-why _ c.in_default.is)
    (among g (goal.at.returns-in-Some-first_locked-clause-comes g c).In_ok-streams)
    (ap (λ (ids : List ℕ). first_locked m.sessions sight.session (b.target ∷ ids)) (sym c.deref-3.ensures.value)
    ∙ sym c.first_locked.ensures ∙ c.in-Some-first_locked.is))

pub returns-clause-comes : goal.returns-clause-comes
returns-clause-comes g c = λ shown.
    let sight = c.args.sight.now in
    let m = machine_in sight in
    let b = c.args.bound.now in
    subst (λ (o : Outcome). IfOk c.change_free.result (λ d. Comes sight d o))
    (sym (is_free m sight.session b c.in_ok-streams.streams.items
    (read g (goal.at.returns-clause-comes g c).In_ok-why _ c.in_default.is)
    (among g (goal.at.returns-clause-comes g c).In_ok-streams)
    (ap (λ (ids : List ℕ). first_locked m.sessions sight.session (b.target ∷ ids)) (sym c.deref-3.ensures.value)
    ∙ sym c.first_locked.ensures ∙ c.in_default-first_locked.is)))
    (c.change_free.ensures.comes shown)

pub returns-in-Some-clause-ready : goal.returns-in-Some-clause-ready
returns-in-Some-clause-ready g c = nothing_ready c.args.sight.now

pub returns-in-Some-first_locked-clause-ready : goal.returns-in-Some-first_locked-clause-ready
returns-in-Some-first_locked-clause-ready g c = nothing_ready c.args.sight.now
