use Rattle.std.proofs.Common.{◌≡◌, map, take, drop}
use Rattle.wh_value.specs.View.{column_of}
use Rattle.wh_algebra.specs.View.{scalars_of}
use Rattle.wh_naming.specs.Findings.{followed}
use Rattle.wh_naming.specs.Select.{plain}
use Rattle.wh_naming.specs.Changes.{place_in, set_findings}
use Rattle.wh_expr_bind.specs.View.{entries_of, findings_of}
use Rattle.wh_dml_bind.specs.View.{places_of}
use Rattle.wh_dml_bind.proofs.assignments.set_columns.Given as goal

abbrev pub invariant-loop-index : goal.invariant-loop-index
invariant-loop-index l = record {
  places : places_of l.all.places.items
      ≡ map (λ part. place_in (map column_of l.columns) part.column) (take l.index l.parts);
  scalars : scalars_of l.all.scalars.items
      ≡ map (λ part. (plain (entries_of l.entries) part.value).scalar) (take l.index l.parts);
  findings : followed (findings_of l.all.findings)
      (set_findings (map column_of l.columns) (entries_of l.entries) (drop l.index l.parts))
      ≡ set_findings (map column_of l.columns) (entries_of l.entries) l.parts;
}
