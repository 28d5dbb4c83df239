use Rattle.std.proofs.Common.{◌≡◌, map, take}
use Rattle.wh_value.specs.View.{column_of}
use Rattle.wh_naming.specs.Changes.{bound_clause, all_clause_findings}
use Rattle.wh_expr_bind.specs.View.{entries_of, findings_of}
use Rattle.wh_bound_change.specs.View.{clauses_of}
use Rattle.wh_dml_bind.specs.Steps.{first_of, second_of}
use Rattle.wh_dml_bind.proofs.clauses.bound_clauses.Given as goal

abbrev pub invariant-loop-clause : goal.invariant-loop-clause
invariant-loop-clause l = record {
  clauses : clauses_of l.bound.clauses.items
      ≡ map (bound_clause (map column_of l.columns) (first_of (entries_of l.both)) (second_of (entries_of l.both)))
      (take l.clause-index l.clauses);
  findings : findings_of l.bound.findings ≡ all_clause_findings (map column_of l.columns) (first_of (entries_of l.both))
      (second_of (entries_of l.both)) (take l.clause-index l.clauses);
}
