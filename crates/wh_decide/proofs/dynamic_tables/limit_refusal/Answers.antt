use Rattle.std.proofs.Common.{◌≡◌, ◌+◌, Bool, [], ◌∷◌, length, ap, ◌∙◌, arith}
use Rattle.std.proofs.lemmas.List.{length-map}
use Rattle.wh_value.specs.View.{column_of}
use Rattle.wh_value.specs.declared.limit.Limit.TheVariants as limits
use Rattle.wh_ddl_bind.specs.View.{new_dynamic_table_of}
use Rattle.wh_reply.specs.Reply.{OverLimit}
use Rattle.wh_reply.specs.View.{refusal_view}
use Rattle.wh_machine.specs.Tests.{refused_if, refused_past, first_of}
use Rattle.wh_decide.proofs.NewDynamics.{first_five}
use Rattle.wh_decide.proofs.dynamic_tables.limit_refusal.Goals as goal

pub returns : goal.returns
returns c =
    let n = new_dynamic_table_of c.args.table.now in
    let count : c.len-columns.result + 0 ≡ length n.columns =
    omega (arith, c.len-columns.ensures, length-map c.args.table.now.columns.items column_of) in
    let name = c.refused_if.ensures ∙ ap (λ (b : Bool). refused_if b (OverLimit limits.Name)) c.has_long_name.ensures in
    let columns = c.refused_past.ensures ∙ ap (refused_past limits.Columns) count in
    rw (c.or-4.ensures, c.or-3.ensures, c.or-2.ensures, c.or.ensures)
    (first_five refusal_view c.count_refusal.result c.refused_if.result c.refused_past.result c.refused_if-2.result
    c.lag_refusal.result
    ∙ (λ i. first_of (c.count_refusal.ensures i ∷ name i ∷ columns i ∷ c.refused_if-2.ensures i
    ∷ c.lag_refusal.ensures i ∷ [])))
