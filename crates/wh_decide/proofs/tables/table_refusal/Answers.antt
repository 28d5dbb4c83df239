use Rattle.std.proofs.Common.{◌≡◌, ◌+◌, Bool, length, ap, ◌∙◌, arith}
use Rattle.std.proofs.lemmas.List.{length-map}
use Rattle.wh_value.specs.View.{column_of}
use Rattle.wh_value.specs.declared.limit.Limit.TheVariants as limits
use Rattle.wh_ddl_bind.specs.View.{new_table_of}
use Rattle.wh_reply.specs.Reply.{OverLimit}
use Rattle.wh_reply.specs.View.{refusal_view}
use Rattle.wh_machine.specs.Tables.{retention_of}
use Rattle.wh_machine.specs.Tests.{refused_if, refused_past}
use Rattle.wh_catalog.specs.Catalog.{state_of}
use Rattle.wh_decide.proofs.OutcomeLemmas.{first_four}
use Rattle.wh_decide.proofs.TableLemmas.{refusal_by}
use Rattle.wh_decide.proofs.tables.table_refusal.Goals as goal

pub returns : goal.returns
returns c =
    let n = new_table_of c.args.table.now in
    let columns : c.len-columns.result + 0 ≡ length n.columns =
    omega (arith, c.len-columns.ensures, length-map c.args.table.now.columns.items column_of) in
    let retention : c.retention_of.result + 0 ≡ retention_of n = omega (arith, c.retention_of.ensures) in
    rw (c.or-3.ensures, c.or-2.ensures, c.or.ensures)
    (first_four refusal_view c.count_refusal.result c.refused_if.result c.refused_past.result c.refused_past-2.result
    ∙ refusal_by (state_of c.args.catalog.now) n _ _ _ _ c.count_refusal.ensures
    (c.refused_if.ensures ∙ ap (λ (b : Bool). refused_if b (OverLimit limits.Name)) c.has_long_name.ensures)
    (c.refused_past.ensures ∙ ap (refused_past limits.Columns) columns)
    (c.refused_past-2.ensures ∙ ap (refused_past limits.Retention) retention))
