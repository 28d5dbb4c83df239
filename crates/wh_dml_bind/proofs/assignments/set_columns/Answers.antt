use Rattle.std.proofs.Common.{◌≡◌, ◌∙◌, ◌+◌, sym, ap, [], ◌∷◌, ◌++◌, map, take, drop}
use Rattle.std.proofs.lemmas.List.{take_all}
use Rattle.wh_value.specs.View.{column_of}
use Rattle.wh_ast.specs.declared.dml.Assignment.{Assignment}
use Rattle.wh_naming.specs.Findings.{Findings, followed}
use Rattle.wh_naming.specs.Select.{plain}
use Rattle.wh_naming.specs.Changes.{place_in, set_findings}
use Rattle.wh_expr_bind.specs.View.{entries_of, findings_of}
use Rattle.wh_dml_bind.proofs.PlaceLemmas.{map_turn}
use Rattle.wh_dml_bind.proofs.ValueLemmas.{set_turn, set_end}
use Rattle.wh_dml_bind.proofs.assignments.set_columns.Goals as goal

pub loop-index-preserved : goal.loop-index-preserved
loop-index-preserved c =
    let columns = map column_of c.args.columns.now in
    let entries = entries_of c.args.entries.now in
    let parts = c.args.parts.now in
    let i = c.loop-index.index in
    let part = c.index-parts-index.result in
    let here = c.loop-index-test.true in
    let before = c.loop-index.invariant in
    let set = c.in_ok-set.ensures in
    let all = c.in_ok-add.ensures in
    record {
      places = all.places ∙ (λ k. before.places k ++ set.place k ∷ [])
          ∙ sym (map_turn (λ (p : Assignment). place_in columns p.column) parts i part here c.index-parts-index.is);
      scalars = all.scalars ∙ (λ k. before.scalars k ++ set.scalar k ∷ []) ∙ sym
          (map_turn (λ (p : Assignment). (plain entries p.value).scalar) parts i part here c.index-parts-index.is);
      findings = ap (λ (f : Findings). followed f (set_findings columns entries (drop (i + 1) parts))) all.findings
          ∙ set_turn columns entries parts c.parts_behind.result.now i part (findings_of c.loop-index.all.findings)
          (findings_of c.in_ok-set.set.findings) here c.index-parts-index.is c.parts_behind.ensures set.findings
          ∙ before.findings;
    }

pub returns : goal.returns
returns c =
    let columns = map column_of c.args.columns.now in
    let entries = entries_of c.args.entries.now in
    let parts = c.args.parts.now in
    let i = c.loop-index.index in
    let done = c.loop-index.invariant in
    let all : take i parts ≡ parts = take_all i parts c.loop-index-test.false in
    record {
      places = done.places ∙ ap (map (λ (p : Assignment). place_in columns p.column)) all;
      scalars = done.scalars ∙ ap (map (λ (p : Assignment). (plain entries p.value).scalar)) all;
      findings = sym (set_end columns entries parts i (findings_of c.loop-index.all.findings) c.loop-index-test.false)
          ∙ done.findings;
    }
