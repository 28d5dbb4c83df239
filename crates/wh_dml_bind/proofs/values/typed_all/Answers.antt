use Rattle.std.proofs.Common.{◌∙◌, sym, ap, [], ◌∷◌, ◌++◌, Bool, false, map, drop, length, option_map, ◌+◌}
use Rattle.std.specs.Prelude.{◌&&◌, if◌then◌else◌}
use Rattle.std.proofs.lemmas.List.{length-map}
use Rattle.wh_naming.specs.Findings.{followed}
use Rattle.wh_naming.specs.Typing.{Typed}
use Rattle.wh_naming.specs.Changes.{typed_all, fit_places}
use Rattle.wh_expr_bind.specs.View.{entries_of, place_of}
use Rattle.wh_dml_bind.specs.View.{places_of}
use Rattle.wh_dml_bind.specs.Steps.{fits_at}
use Rattle.wh_dml_bind.proofs.ValueLemmas.{values_turn, all_turn, fits_turn, fits_all}
use Rattle.wh_dml_bind.proofs.values.typed_all.Goals as goal

pub loop-index-preserved : goal.loop-index-preserved
loop-index-preserved c =
    let entries = entries_of c.args.entries.now in
    let values = c.args.values.now in
    let places = places_of c.args.places.now in
    let i = c.loop-index.index in
    let value = c.index-values-index.result in
    let here = c.loop-index-test.true in
    let is = c.index-values-index.is in
    let before = c.loop-index.invariant in
    let x = c.in_ok-x.ensures in
    let all = c.in_ok-add.ensures in
    record {
      scalars = all.scalars ∙ (λ k. before.scalars k ++ (x k).scalar ∷ [])
          ∙ sym (values_turn (λ (t : Typed). t.scalar) entries values i value here is);
      fits = before.fits ∙ fits_turn places entries values i value c.loop-index.all.fits here is
          ∙ sym (ap (λ (b : Bool). if b then fit_places (drop (i + 1) places)
          (map (λ (t : Typed). t.type_of) (typed_all entries (drop (i + 1) values))) else false)
          (all.fits ∙ ap (λ (b : Bool). c.loop-index.all.fits && b)
          (c.fits_at.ensures ∙ λ k. fits_at places i (x k).type_of)));
      findings = all.findings ∙ (λ k. followed (before.findings k) (x k).findings)
          ∙ sym (all_turn entries values i value here is);
    }

pub returns-clause-fits : goal.returns-clause-fits
returns-clause-fits c =
    let places = c.args.places.now in
    sym (c.loop-index.invariant.fits
    ∙ fits_all (places_of places) (entries_of c.args.entries.now) c.args.values.now c.loop-index.index (length places)
    c.loop-index.all.fits c.loop-index-test.false c.loop-index.auto.index-end
    (length-map places (option_map place_of)))
