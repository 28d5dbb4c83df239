use Rattle.std.proofs.Common.{◌≡◌, ◌∙◌, subst, map, IfOk}
use Rattle.wh_naming.specs.Select.{BoundSource}
use Rattle.wh_naming.specs.Changes as naming
use Rattle.wh_naming.specs.Changes.{BoundChange, target_entry, merged_on}
use Rattle.wh_naming.specs.View.{named_of}
use Rattle.wh_bind.specs.View.{source_in, source_part}
use Rattle.wh_dml_bind.specs.Steps.{source_entry}
use Rattle.wh_dml_bind.specs.View.{target_in, merge_in, checked_in}
use Rattle.wh_dml_bind.proofs.ClauseLemmas.{merge_read}
use Rattle.wh_dml_bind.proofs.merge.merge.Goals as goal

pub returns : goal.returns
unfolding source_part
returns c =
    let t = target_in c.args.target in
    let name = c.args.name.now in
    let source = c.source_name-source.result.now in
    let s = source_in c.in_ok-rows.rows in
    let on = c.args.on.now in
    let clauses = c.args.clauses.now in
    let made : merge_in t s c.in_ok-parts.parts
    ≡ merged_on t (target_entry name t) (source_entry source s) s on clauses =
    subst (λ (x : BoundSource). merge_in t x c.in_ok-parts.parts
    ≡ merged_on t (target_entry name t) (source_entry source x) x on clauses)
    (λ i. source_in (c.get.ensures i)) c.in_ok-parts.ensures in
    subst (λ (m : BoundChange). IfOk c.merged.result (λ x. checked_in x ≡ m))
    (made ∙ merge_read t name source (naming.source_part c.args.source.now)
    (map named_of c.args.names.now) s on clauses c.in_ok-rows.ensures c.source_name-source.ensures)
    c.merged.ensures
