use Rattle.std.proofs.Common.{ℕ, List, refl, ap, sym, ◌∙◌}
use Rattle.wh_reply.specs.Reply.{NumberOutOfRange, Listing}
use Rattle.wh_reply.specs.View.{refusal_view}
use Rattle.wh_reply.specs.declared.reply.Refusal.TheVariants as refused
use Rattle.wh_reply.specs.declared.reply.Reply.TheVariants as told
use Rattle.wh_catalog.specs.Catalog.{stored_of}
use Rattle.wh_plan.specs.Rows.{rows_found}
use Rattle.wh_txn.specs.View.{sessions_of}
use Rattle.wh_decide.specs.Sight.{machine_in}
use Rattle.wh_decide.proofs.OutcomeLemmas.{declines, answers}
use Rattle.wh_decide.proofs.ReadingLemmas.{found_read}
use Rattle.wh_decide.proofs.ReadyLemmas.{nothing_ready}
use Rattle.wh_decide.proofs.QueryLemmas.{is_unread, is_shown, is_undefined}
use Rattle.wh_decide.proofs.AskLemmas.{none_asked}
use Rattle.wh_decide.proofs.queries.select.Goals as goal

pub returns-in-Some-clause-comes : goal.returns-in-Some-clause-comes
returns-in-Some-clause-comes g c = λ shown.
    let sight = c.args.sight.now in
    let b = c.args.bound.now in
    let why = refusal_view c.in-Some.why in
    declines (stored_of sight.catalog.now) (sessions_of sight.sessions.now) sight.stamp _ _ why refl
    (is_unread (machine_in sight) sight.session b why
    (found_read (machine_in sight) b.is_wide _ _ _ _ c.deref.ensures.value c.in_ok-why.ensures c.in-Some.is))

pub returns-in_default-2-clause-comes : goal.returns-in_default-2-clause-comes
returns-in_default-2-clause-comes g c = λ shown.
    let sight = c.args.sight.now in
    let b = c.args.bound.now in
    declines (stored_of sight.catalog.now) (sessions_of sight.sessions.now) sight.stamp
    refused.NumberOutOfRange _ NumberOutOfRange refl
    (is_undefined (machine_in sight) sight.session b
    (found_read (machine_in sight) b.is_wide _ _ _ _ c.deref.ensures.value c.in_ok-why.ensures c.in_default.is)
    (ap rows_found (sym c.in_default-2.is) ∙ c.in_ok-rows.ensures.listed shown))

pub returns-clause-comes : goal.returns-clause-comes
returns-clause-comes g c = λ shown.
    let sight = c.args.sight.now in
    let b = c.args.bound.now in
    let rows = c.in-Some-2.rows.items in
    answers (stored_of sight.catalog.now) (sessions_of sight.sessions.now) sight.stamp
    (told.Listing c.in_ok-names.names c.in-Some-2.rows) _ (Listing b.names.items rows)
    (ap (λ (names : List (List ℕ)). Listing names rows) (c.in_ok-names.ensures ∙ c.deref-2.ensures.value))
    (is_shown (machine_in sight) sight.session b rows
    (found_read (machine_in sight) b.is_wide _ _ _ _ c.deref.ensures.value c.in_ok-why.ensures c.in_default.is)
    (ap rows_found (sym c.in-Some-2.is) ∙ c.in_ok-rows.ensures.listed shown))

pub returns-in-Some-clause-ready : goal.returns-in-Some-clause-ready
returns-in-Some-clause-ready g c = nothing_ready c.args.sight.now

pub returns-in_default-2-clause-ready : goal.returns-in_default-2-clause-ready
returns-in_default-2-clause-ready g c = nothing_ready c.args.sight.now

pub returns-clause-ready : goal.returns-clause-ready
returns-clause-ready g c = nothing_ready c.args.sight.now

pub returns-in_err-why-clause-asks : goal.returns-in_err-why-clause-asks
returns-in_err-why-clause-asks g c = none_asked c.args.sight.now.catalog.now _ _ _

pub returns-in-Some-clause-asks : goal.returns-in-Some-clause-asks
returns-in-Some-clause-asks g c = none_asked c.args.sight.now.catalog.now _ _ _
