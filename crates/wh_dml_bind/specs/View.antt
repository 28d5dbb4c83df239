-- What the types of the code stand for.
--     places_of                places of columns, of which some have no meaning
--     target_in                a statement's target
--     row_in                   a row of values
--     merge_in                 a MERGE of its parts
--     checked_in               a change, and what is found wrong in its statement
use Rattle.std.specs.Prelude.{List, map, Option, option_map}
use Rattle.wh_value.specs.View.{column_of}
use Rattle.wh_scalar.specs.View.{scalar_of}
use Rattle.wh_algebra.specs.View.{scalars_of}
use Rattle.wh_naming.specs.Scope as scope
use Rattle.wh_naming.specs.Select.{BoundSource}
use Rattle.wh_naming.specs.Changes as naming
use Rattle.wh_bound_change.specs.View.{clauses_of, change_of}
use Rattle.wh_expr_bind.specs.View.{place_of, findings_of}
use Rattle.wh_expr_bind.specs.declared.columns.Place.{Place}
use Rattle.wh_dml_bind.specs.Steps.{merge_of}
use Rattle.wh_dml_bind.specs.declared.target.Target.{Target}
use Rattle.wh_dml_bind.specs.declared.values.NewRow.{NewRow}
use Rattle.wh_dml_bind.specs.declared.merge.MergeParts.{MergeParts}
use Rattle.wh_dml_bind.specs.declared.checked.Checked.{Checked}

abbrev pub places_of : List (Option Place) → List (Option scope.Place)
places_of ps = map (option_map place_of) ps

abbrev pub target_in : Target → naming.Target
target_in t = record { id = t.id; columns = map column_of t.columns.now; findings = findings_of t.findings }

abbrev pub row_in : NewRow → naming.NewRow
row_in r = record { scalars = scalars_of r.scalars.items; findings = findings_of r.findings }

abbrev pub merge_in : naming.Target → BoundSource → MergeParts → naming.BoundChange
merge_in t s p =
    merge_of t s (findings_of p.taken) (scalar_of p.on) (clauses_of p.clauses.items) (findings_of p.findings)

unfoldable pub checked_in : Checked → naming.BoundChange
checked_in c = record {
  target = c.bound.target;
  change = change_of c.bound.change;
  sources = c.bound.sources.items;
  findings = findings_of c.findings;
  is_wide = c.bound.is_wide;
}
