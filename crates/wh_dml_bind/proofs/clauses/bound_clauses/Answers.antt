use Rattle.std.proofs.Common.{◌∙◌, sym, [], ◌∷◌, ◌++◌, map}
use Rattle.wh_value.specs.View.{column_of}
use Rattle.wh_naming.specs.Findings.{followed}
use Rattle.wh_naming.specs.Changes.{bound_clause}
use Rattle.wh_expr_bind.specs.View.{entries_of}
use Rattle.wh_dml_bind.specs.Steps.{first_of, second_of}
use Rattle.wh_dml_bind.proofs.PlaceLemmas.{map_turn}
use Rattle.wh_dml_bind.proofs.ClauseLemmas.{found_turn}
use Rattle.wh_dml_bind.proofs.clauses.bound_clauses.Goals as goal

pub loop-clause-preserved : goal.loop-clause-preserved
loop-clause-preserved c =
    let columns = map column_of c.args.columns.now in
    let target = first_of (entries_of c.args.both.now) in
    let source = second_of (entries_of c.args.both.now) in
    let clauses = c.args.clauses.now in
    let i = c.loop-clause.clause-index in
    let clause = c.clause-item.result in
    let here = c.loop-clause-test.true in
    let before = c.loop-clause.invariant in
    let one = c.in_ok-one.ensures in
    let bound = c.in_ok-add.ensures in
    record {
      clauses = bound.clauses ∙ (λ k. before.clauses k ++ one.clause k ∷ [])
          ∙ sym (map_turn (bound_clause columns target source) clauses i clause here c.clause-item.is);
      findings = bound.findings ∙ (λ k. followed (before.findings k) (one.findings k))
          ∙ sym (found_turn columns target source clauses i clause here c.clause-item.is);
    }
