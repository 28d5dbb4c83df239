use Rattle.std.proofs.Common.{◌≡◌, ℕ, ◌+◌, ◌-◌, [], ◌∷◌, ap, sym, ◌∙◌, arith}
use Rattle.wh_value.specs.declared.limit.Limit.TheVariants as limits
use Rattle.wh_reply.specs.View.{refusal_view}
use Rattle.wh_state.specs.State.{live_count}
use Rattle.wh_machine.specs.Tests.{first_of, refused_past}
use Rattle.wh_machine.specs.Tables.{one_if}
use Rattle.wh_catalog.specs.Catalog.{state_of}
use Rattle.wh_decide.proofs.CatalogLemmas.{count_is, live_is}
use Rattle.wh_decide.proofs.OutcomeLemmas.{first_two}
use Rattle.wh_decide.proofs.definitions.count_refusal.Goals as goal

pub returns : goal.returns
returns c =
    let catalog = c.args.catalog.now in
    let s = state_of catalog in
    let more : c.live_count.result + c.more.result ≡ live_count s.objects + 1 - one_if c.args.replaced =
    omega (arith, c.live_count.ensures.count, live_is catalog, c.more.ensures) in
    let ids = c.refused_past.ensures
    ∙ ap (λ (n : ℕ). refused_past limits.ObjectIds (n + 1)) (c.object_count.ensures.count ∙ sym (count_is catalog)) in
    let objects = c.refused_past-2.ensures ∙ ap (refused_past limits.Objects) more in
    rw c.or.ensures (first_two refusal_view c.refused_past.result c.refused_past-2.result
    ∙ (λ i. first_of (ids i ∷ objects i ∷ [])))
