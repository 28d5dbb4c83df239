use Rattle.wh_catalog.specs.Back.{object_taken_back}
use Rattle.wh_catalog.proofs.Names.{keeps_life}
use Rattle.wh_catalog.proofs.Places.{kept_changed}
use Rattle.wh_catalog.proofs.carrying.take_version_back.Goals as goal

pub returns-clause-back : goal.returns-clause-back
returns-clause-back c =
    kept_changed c.in-Some.ensures.found c.index_mut-object.ensures.value
    c.take_back.new.self (object_taken_back c.args.pushed.next_row) c.take_back.ensures.back

pub returns-clause-names : goal.returns-clause-names
returns-clause-names c =
    keeps_life c.in-Some.ensures.found c.index_mut-object.ensures.value
    c.take_back.new.self c.take_back.ensures.name c.take_back.ensures.live
