use Rattle.std.proofs.Common.{ℕ, List, Some, sym, ap, ◌∙◌}
use Rattle.wh_reply.specs.Reply.{SourceGone, NotInitialized}
use Rattle.wh_catalog.specs.Catalog.{state_of}
use Rattle.wh_decide.proofs.ReadingLemmas.{is_empty_first, is_gone_first, none_gone}
use Rattle.wh_decide.proofs.reading.reading_refusal.Goals as goal

pub returns-in-Some : goal.returns-in-Some
returns-in-Some c =
    let sight = c.args.sight.now in
    ap (λ (name : List ℕ). Some (NotInitialized name)) c.in_ok-name.ensures
    ∙ sym (is_empty_first (state_of sight.catalog.now).objects sight.stamp c.args.ids.now
    c.first_uninitialized.result c.in-Some.id c.first_uninitialized.ensures c.in-Some.is)

pub returns-in-Some-least_gone : goal.returns-in-Some-least_gone
returns-in-Some-least_gone c =
    let sight = c.args.sight.now in
    ap (λ (name : List ℕ). Some (SourceGone name)) c.in_ok-name-2.ensures
    ∙ sym (is_gone_first (state_of sight.catalog.now).objects sight.stamp c.args.ids.now
    c.first_uninitialized.result c.in-Some-least_gone.id c.first_uninitialized.ensures c.in_default.is
    (sym c.least_gone.ensures ∙ c.in-Some-least_gone.is))

pub returns : goal.returns
returns c =
    let sight = c.args.sight.now in
    c.first_stale.ensures
    ∙ sym (none_gone (state_of sight.catalog.now).objects sight.stamp c.args.ids.now
    c.first_uninitialized.result c.first_uninitialized.ensures c.in_default.is
    (sym c.least_gone.ensures ∙ c.in_default-least_gone.is))
