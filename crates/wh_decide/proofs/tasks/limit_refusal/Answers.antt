use Rattle.std.proofs.Common.{Bool, [], ◌∷◌, ap, ◌∙◌}
use Rattle.wh_value.specs.declared.limit.Limit.TheVariants as limits
use Rattle.wh_reply.specs.Reply.{OverLimit}
use Rattle.wh_reply.specs.View.{refusal_view}
use Rattle.wh_machine.specs.Tests.{refused_if, first_of}
use Rattle.wh_catalog.specs.Catalog.{state_of}
use Rattle.wh_decide.specs.Tasks.{graph_refusal}
use Rattle.wh_decide.proofs.OutcomeLemmas.{first_four}
use Rattle.wh_decide.proofs.tasks.limit_refusal.Goals as goal

pub returns : goal.returns
returns c =
    let name = c.refused_if.ensures ∙ ap (λ (b : Bool). refused_if b (OverLimit limits.Name)) c.is_long.ensures in
    let graph = c.graph_refusal.ensures
    ∙ ap (graph_refusal (state_of c.args.catalog.now).objects) c.deref.ensures.value in
    rw (c.or-3.ensures, c.or-2.ensures, c.or.ensures)
    (first_four refusal_view c.count_refusal.result c.refused_if.result c.graph_refusal.result
    c.schedule_refusal.result
    ∙ (λ i. first_of (c.count_refusal.ensures i ∷ name i ∷ graph i ∷ c.schedule_refusal.ensures i ∷ [])))
