use Rattle.std.proofs.Common.{◌≡◌, map, take}
use Rattle.wh_value.specs.View.{column_of}
use Rattle.wh_naming.specs.Changes.{value_rows, row_findings}
use Rattle.wh_expr_bind.specs.View.{findings_of}
use Rattle.wh_bound_change.specs.View.{rows_of}
use Rattle.wh_dml_bind.specs.View.{places_of}
use Rattle.wh_dml_bind.proofs.values.value_rows.Given as goal

abbrev pub invariant-loop-values : goal.invariant-loop-values
invariant-loop-values l = record {
  rows : rows_of l.rows.rows.items ≡ map (λ row. row.scalars)
      (value_rows (map column_of l.columns) (places_of l.places) (take l.values-index l.found));
  findings : findings_of l.rows.findings
      ≡ row_findings (value_rows (map column_of l.columns) (places_of l.places) (take l.values-index l.found));
}
