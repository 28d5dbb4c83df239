use Rattle.std.proofs.Common.{◌≡◌, ◌+◌, [], ◌∷◌, length, ap, ◌∙◌, arith}
use Rattle.wh_value.specs.declared.limit.Limit.TheVariants as limits
use Rattle.wh_reply.specs.View.{refusal_view}
use Rattle.wh_machine.specs.Tests.{refused_past, first_of}
use Rattle.wh_decide.proofs.OutcomeLemmas.{first_three}
use Rattle.wh_decide.proofs.tasks.graph_refusal.Goals as goal

pub returns : goal.returns
returns c =
    let count : length c.args.after.now + 0 ≡ length c.args.after.now = omega arith in
    let graph = c.refused_past.ensures ∙ ap (refused_past limits.GraphTasks) c.other_count.ensures in
    let predecessors = c.refused_past-2.ensures ∙ ap (refused_past limits.Predecessors) count in
    rw (c.or-2.ensures, c.or.ensures)
    (first_three refusal_view c.refused_past.result c.refused_past-2.result c.children_refusal.result
    ∙ (λ i. first_of (graph i ∷ predecessors i ∷ c.children_refusal.ensures i ∷ [])))
