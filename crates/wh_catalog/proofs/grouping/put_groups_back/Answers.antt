use Rattle.wh_catalog.specs.Back.{object_regrouped}
use Rattle.wh_catalog.proofs.Names.{keeps_life}
use Rattle.wh_catalog.proofs.Places.{kept_changed}
use Rattle.wh_catalog.proofs.grouping.put_groups_back.Goals as goal

pub returns-clause-back : goal.returns-clause-back
returns-clause-back c =
    kept_changed c.in-Some.ensures.found c.index_mut-object.ensures.value
    c.put_groups_back.new.self (object_regrouped c.args.was) c.put_groups_back.ensures.back

pub returns-clause-names : goal.returns-clause-names
returns-clause-names c =
    keeps_life c.in-Some.ensures.found c.index_mut-object.ensures.value
    c.put_groups_back.new.self c.put_groups_back.ensures.name c.put_groups_back.ensures.live
