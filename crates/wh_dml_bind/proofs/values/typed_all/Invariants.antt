use Rattle.std.proofs.Common.{◌≡◌, map, take, drop}
use Rattle.std.specs.Prelude.{if◌then◌else◌, false}
use Rattle.wh_algebra.specs.View.{scalars_of}
use Rattle.wh_naming.specs.Changes.{typed_all, all_findings, fit_places}
use Rattle.wh_expr_bind.specs.View.{entries_of, findings_of}
use Rattle.wh_dml_bind.specs.View.{places_of}
use Rattle.wh_dml_bind.proofs.values.typed_all.Given as goal

abbrev pub invariant-loop-index : goal.invariant-loop-index
invariant-loop-index l = record {
  scalars : scalars_of l.all.scalars.items
      ≡ map (λ x. x.scalar) (typed_all (entries_of l.entries) (take l.index l.values));
  fits : fit_places (places_of l.places) (map (λ x. x.type_of) (typed_all (entries_of l.entries) l.values))
      ≡ (if l.all.fits then fit_places (drop l.index (places_of l.places))
      (map (λ x. x.type_of) (typed_all (entries_of l.entries) (drop l.index l.values))) else false);
  findings : findings_of l.all.findings ≡ all_findings (typed_all (entries_of l.entries) (take l.index l.values));
}
