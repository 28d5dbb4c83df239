use Rattle.std.proofs.Common.{◌≡◌, ℕ, option_map, false, refl, ap, sym, ◌∙◌}
use Rattle.wh_reply.specs.Reply.{HasData}
use Rattle.wh_reply.specs.declared.reply.Reply.TheVariants as told
use Rattle.wh_reply.specs.View.{refusal_view}
use Rattle.wh_state.specs.Objects.{stream_at}
use Rattle.wh_catalog.specs.Catalog.{stored_of, state_of}
use Rattle.wh_catalog.specs.Stream.{stream_of}
use Rattle.wh_net.specs.Stream.{rows_shown, has_rows}
use Rattle.wh_txn.specs.View.{sessions_of}
use Rattle.wh_decide.specs.Sight.{machine_in}
use Rattle.wh_txn.proofs.SeenLemmas.{catalog_stream}
use Rattle.wh_decide.proofs.OutcomeLemmas.{answers}
use Rattle.wh_decide.proofs.ReadyLemmas.{nothing_ready}
use Rattle.wh_decide.proofs.StreamLemmas.{none_asked, asked_refused, asked_told}
use Rattle.wh_decide.proofs.AskLemmas as asks
use Rattle.wh_decide.proofs.streams.has_data.Given.{Over}
use Rattle.wh_decide.proofs.streams.has_data.Goals.{After-stream}
use Rattle.wh_decide.proofs.streams.has_data.Goals as goal

-- the stream of the id, if there is one
found : (g : Over) (c : After-stream g) → stream_at (state_of c.args.sight.now.catalog.now).objects c.args.id
    ≡ option_map (λ s. stream_of s.now) c.stream.result
found g c = catalog_stream c.args.sight.now.catalog.now c.args.id ∙ sym c.stream.ensures

pub returns-in_default-clause-comes : goal.returns-in_default-clause-comes
returns-in_default-clause-comes g c = λ shown.
    let sight = c.args.sight.now in
    answers (stored_of sight.catalog.now) (sessions_of sight.sessions.now) sight.stamp (told.HasData false) _
    (HasData false) refl (none_asked (machine_in sight) sight.session c.args.id
    (found g (goal.at.returns-in_default-clause-comes g c).After-stream
    ∙ ap (option_map (λ s. stream_of s.now)) c.in_default.is))

pub returns-in-Some-2-clause-comes : goal.returns-in-Some-2-clause-comes
returns-in-Some-2-clause-comes g c = λ shown.
    let sight = c.args.sight.now in
    asked_refused (machine_in sight) sight.session c.args.id (stream_of c.in-Some.stream.now)
    (refusal_view c.in-Some-2.why)
    (found g (goal.at.returns-in-Some-2-clause-comes g c).After-stream
    ∙ ap (option_map (λ s. stream_of s.now)) c.in-Some.is)
    (sym c.in_ok-why.ensures ∙ ap (option_map refusal_view) c.in-Some-2.is)

pub returns-clause-comes : goal.returns-clause-comes
returns-clause-comes g c = λ shown.
    let sight = c.args.sight.now in
    let s = stream_of c.in-Some.stream.now in
    answers (stored_of sight.catalog.now) (sessions_of sight.sessions.now) sight.stamp
    (told.HasData c.in_ok-has_rows.has_rows) _ _
    (ap HasData (c.in_ok-has_rows.ensures.shown shown
    ∙ ap (λ (start : ℕ). has_rows (rows_shown (state_of sight.catalog.now).objects s start)) c.start.ensures))
    (asked_told (machine_in sight) sight.session c.args.id s
    (found g (goal.at.returns-clause-comes g c).After-stream ∙ ap (option_map (λ s. stream_of s.now)) c.in-Some.is)
    (sym c.in_ok-why.ensures ∙ ap (option_map refusal_view) c.in_default-2.is))

pub returns-in_default-clause-ready : goal.returns-in_default-clause-ready
returns-in_default-clause-ready g c = nothing_ready c.args.sight.now

pub returns-in-Some-2-clause-ready : goal.returns-in-Some-2-clause-ready
returns-in-Some-2-clause-ready g c = nothing_ready c.args.sight.now

pub returns-clause-ready : goal.returns-clause-ready
returns-clause-ready g c = nothing_ready c.args.sight.now

-- ---- what is asked for

pub returns-in_default-clause-asks : goal.returns-in_default-clause-asks
returns-in_default-clause-asks g c = asks.none_asked c.args.sight.now.catalog.now _ _ _

pub returns-in_err-why-clause-asks : goal.returns-in_err-why-clause-asks
returns-in_err-why-clause-asks g c = asks.none_asked c.args.sight.now.catalog.now _ _ _

pub returns-in-Some-2-clause-asks : goal.returns-in-Some-2-clause-asks
returns-in-Some-2-clause-asks g c = asks.none_asked c.args.sight.now.catalog.now _ _ _

pub returns-in_err-has_rows-clause-asks : goal.returns-in_err-has_rows-clause-asks
returns-in_err-has_rows-clause-asks g c =
    let sight = c.args.sight.now in
    asks.moved_from sight.catalog.now c.args.id (stream_of c.in-Some.stream.now) _ _ _ _ c.start.ensures
    (sym c.stream.ensures ∙ ap (option_map (λ s. stream_of s.now)) c.in-Some.is) c.in_err-has_rows.ensures.asks

pub returns-clause-asks : goal.returns-clause-asks
returns-clause-asks g c =
    let sight = c.args.sight.now in
    asks.moved_from sight.catalog.now c.args.id (stream_of c.in-Some.stream.now) _ _ _ _ c.start.ensures
    (sym c.stream.ensures ∙ ap (option_map (λ s. stream_of s.now)) c.in-Some.is) c.in_ok-has_rows.ensures.asks
