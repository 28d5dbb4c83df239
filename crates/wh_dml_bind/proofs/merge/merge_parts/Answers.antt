use Rattle.std.proofs.Common.{◌∙◌, ap}
use Rattle.wh_expr_bind.specs.View.{entries_of, findings_of}
use Rattle.wh_bind.specs.View.{source_in}
use Rattle.wh_dml_bind.specs.View.{target_in}
use Rattle.wh_dml_bind.proofs.ClauseLemmas.{two_long, merge_made}
use Rattle.wh_dml_bind.proofs.merge.merge_parts.Goals as goal

pub returns : goal.returns
returns c =
    let both = ap entries_of c.deref.ensures.value ∙ c.in_ok-both.ensures in
    let parts = c.parts_over.ensures in
    merge_made c.parts_over.result (target_in c.args.target.now) c.args.name.now c.args.source_name.now
    (source_in c.args.source.now) c.args.on.now c.args.clauses.now
    _ (findings_of c.in_ok-taken.taken) both c.in_ok-taken.ensures parts.taken parts.on parts.clauses parts.findings

pub parts_over-requires : goal.parts_over-requires
parts_over-requires c = two_long _ _ _ (ap entries_of c.deref.ensures.value ∙ c.in_ok-both.ensures)
