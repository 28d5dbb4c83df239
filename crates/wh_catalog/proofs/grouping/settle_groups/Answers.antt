use Rattle.wh_catalog.proofs.Names.{keeps_life}
use Rattle.wh_catalog.proofs.Places.{same_stored}
use Rattle.wh_catalog.proofs.FiledLaws.{set_same}
use Rattle.wh_catalog.proofs.grouping.settle_groups.Goals as goal

pub returns-clause-stored : goal.returns-clause-stored
returns-clause-stored c =
    same_stored c.in-Some.ensures.found c.index_mut-object.ensures.value
    c.settle_groups.new.self c.settle_groups.ensures.stored

pub returns-clause-filed : goal.returns-clause-filed
returns-clause-filed c =
    set_same c.in-Some.ensures.found c.index_mut-object.ensures.value
    c.settle_groups.new.self c.settle_groups.ensures.filed

pub returns-clause-names : goal.returns-clause-names
returns-clause-names c =
    keeps_life c.in-Some.ensures.found c.index_mut-object.ensures.value
    c.settle_groups.new.self c.settle_groups.ensures.name c.settle_groups.ensures.live
