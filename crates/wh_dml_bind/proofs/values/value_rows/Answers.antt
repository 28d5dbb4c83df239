use Rattle.std.proofs.Common.{ap, map, arith}
use Rattle.std.proofs.lemmas.Grind.{common_steps}
use Rattle.wh_value.specs.View.{column_of}
use Rattle.wh_naming.specs.Changes.{NewRow}
use Rattle.wh_dml_bind.specs.View.{places_of}
use Rattle.wh_dml_bind.proofs.ValueLemmas.{rows_turn, row_findings_turn}
use Rattle.wh_dml_bind.proofs.values.value_rows.Goals as goal

pub loop-values-preserved : goal.loop-values-preserved
loop-values-preserved c =
    let columns = map column_of c.args.columns.now in
    let places = places_of c.args.places.now in
    let turn = rows_turn columns places c.args.found.now c.loop-values.values-index c.values-item.result
    c.loop-values-test.true c.values-item.is in
    let found = row_findings_turn columns places c.args.found.now c.loop-values.values-index c.values-item.result
    c.loop-values-test.true c.values-item.is in
    let scalars = ap (λ (r : NewRow). r.scalars) c.in_ok-row.ensures in
    let findings = ap (λ (r : NewRow). r.findings) c.in_ok-row.ensures in
    record { rows = grind (arith, common_steps); findings = grind (arith, common_steps) }
