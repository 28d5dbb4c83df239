use Rattle.std.proofs.Common.{Bool, ap, ◌∙◌}
use Rattle.wh_value.specs.declared.limit.Limit.TheVariants as limits
use Rattle.wh_ddl_bind.specs.View.{new_stream_of}
use Rattle.wh_reply.specs.Reply.{OverLimit}
use Rattle.wh_reply.specs.View.{refusal_view}
use Rattle.wh_machine.specs.Tests.{refused_if}
use Rattle.wh_catalog.specs.Catalog.{state_of}
use Rattle.wh_decide.proofs.OutcomeLemmas.{first_two}
use Rattle.wh_decide.proofs.StreamLemmas.{refusal_by}
use Rattle.wh_decide.proofs.streams.stream_refusal.Goals as goal

pub returns : goal.returns
returns c =
    rw c.or.ensures
    (first_two refusal_view c.count_refusal.result c.refused_if.result
    ∙ refusal_by (state_of c.args.catalog.now) (new_stream_of c.args.stream.now) _ _ c.count_refusal.ensures
    (c.refused_if.ensures ∙ ap (λ (b : Bool). refused_if b (OverLimit limits.Name)) c.is_long.ensures))
