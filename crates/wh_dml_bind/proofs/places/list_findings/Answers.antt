use Rattle.std.proofs.Common.{◌≡◌, ◌∙◌, ◌+◌, sym, ap, map, drop, List}
use Rattle.wh_value.specs.View.{column_of}
use Rattle.wh_expr_bind.specs.View.{findings_of}
use Rattle.wh_naming.specs.Findings.{Name, Findings, followed, taken_if}
use Rattle.wh_naming.specs.Changes.{place_in, place_findings, names_again, list_findings}
use Rattle.wh_dml_bind.proofs.PlaceLemmas.{names_turn, names_end}
use Rattle.wh_dml_bind.proofs.places.list_findings.Goals as goal

pub loop-place-preserved : goal.loop-place-preserved
loop-place-preserved c =
    let columns = map column_of c.args.columns.now in
    let names = c.args.names.now in
    let i = c.loop-place.place in
    let name = c.index-names-place.result in
    let again : c.comes_again-is_again.result ≡ names_again name (drop (i + 1) names) =
    c.comes_again-is_again.ensures ∙ ap (λ (xs : List Name). names_again name xs) c.names_behind.ensures in
    let found : findings_of c.in_ok-found.found ≡ followed (place_findings name (place_in columns name))
    (taken_if (names_again name (drop (i + 1) names)) name) =
    c.in_ok-found.ensures ∙ (λ k. followed (place_findings name (c.place_in.ensures k)) (taken_if (again k) name)) in
    ap (λ (f : Findings). followed f (list_findings columns (drop (i + 1) names))) c.followed-findings.ensures
    ∙ names_turn columns names i name (findings_of c.loop-place.findings)
    (findings_of c.in_ok-found.found) c.loop-place-test.true c.index-names-place.is found
    ∙ c.loop-place.invariant

pub returns : goal.returns
returns c = sym (names_end (map column_of c.args.columns.now) c.args.names.now c.loop-place.place
    (findings_of c.loop-place.findings) c.loop-place-test.false) ∙ c.loop-place.invariant
