use Rattle.std.proofs.Common.{[], ◌∷◌, ap, ◌∙◌}
use Rattle.wh_ddl_bind.specs.View.{new_dynamic_table_of}
use Rattle.wh_reply.specs.View.{refusal_view}
use Rattle.wh_machine.specs.Tests.{first_of}
use Rattle.wh_machine.specs.Dynamics.{below_refusal}
use Rattle.wh_catalog.specs.Catalog.{state_of}
use Rattle.wh_decide.proofs.OutcomeLemmas.{first_three}
use Rattle.wh_decide.proofs.NewDynamics.{refusal_by}
use Rattle.wh_decide.proofs.dynamic_tables.dynamic_refusal.Goals as goal

pub returns : goal.returns
returns c =
    let s = state_of c.args.catalog.now in
    let n = new_dynamic_table_of c.args.table.now in
    let below = c.in_ok-below.ensures
    ∙ ap (below_refusal s.objects n.name n.lag) (c.deref.ensures.value ∙ c.in_ok-upstream.ensures) in
    rw (c.or-2.ensures, c.or.ensures)
    (first_three refusal_view c.mode_refusal.result c.in_ok-below.below c.limit_refusal.result
    ∙ (λ i. first_of (c.mode_refusal.ensures i ∷ below i ∷ c.limit_refusal.ensures i ∷ []))
    ∙ refusal_by s n)
