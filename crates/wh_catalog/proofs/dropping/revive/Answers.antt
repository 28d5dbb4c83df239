use Rattle.std.proofs.Common.{true, refl}
use Rattle.wh_catalog.specs.Back.{alive}
use Rattle.wh_catalog.proofs.Names.{keeps_names, last_by_id}
use Rattle.wh_catalog.proofs.Places.{kept_changed}
use Rattle.wh_catalog.proofs.dropping.revive.Goals as goal

pub returns-clause-back : goal.returns-clause-back
returns-clause-back c =
    let old = c.index_mut-object.result.now in
    kept_changed c.in-Some.ensures.found c.index_mut-object.ensures.value (record old { is_live = true }) alive refl

pub returns-clause-names : goal.returns-clause-names
returns-clause-names c =
    keeps_names c.in-Some.ensures.found c.index_mut-object.ensures.value
    (record c.index_mut-object.result.now { is_live = true }) refl
    (λ _ _. last_by_id c.in-Some.ensures.found c.index_mut-object.ensures.value c.requires)
