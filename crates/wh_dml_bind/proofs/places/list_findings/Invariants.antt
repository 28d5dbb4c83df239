use Rattle.std.proofs.Common.{◌≡◌, map, drop}
use Rattle.wh_value.specs.View.{column_of}
use Rattle.wh_naming.specs.Findings.{followed}
use Rattle.wh_naming.specs.Changes.{list_findings}
use Rattle.wh_expr_bind.specs.View.{findings_of}
use Rattle.wh_dml_bind.proofs.places.list_findings.Given as goal

abbrev pub invariant-loop-place : goal.invariant-loop-place
invariant-loop-place l =
    followed (findings_of l.findings) (list_findings (map column_of l.columns) (drop l.place l.names))
    ≡ list_findings (map column_of l.columns) l.names
