use Rattle.wh_catalog.specs.Back.{object_put_back}
use Rattle.wh_catalog.proofs.Names.{keeps_life}
use Rattle.wh_catalog.proofs.Places.{kept_changed}
use Rattle.wh_catalog.proofs.consuming.put_offset_back.Goals as goal

pub returns-clause-back : goal.returns-clause-back
returns-clause-back c =
    kept_changed c.in-Some.ensures.found c.index_mut-object.ensures.value
    c.put_offset_back.new.self (object_put_back c.args.offset) c.put_offset_back.ensures.back

pub returns-clause-names : goal.returns-clause-names
returns-clause-names c =
    keeps_life c.in-Some.ensures.found c.index_mut-object.ensures.value
    c.put_offset_back.new.self c.put_offset_back.ensures.name c.put_offset_back.ensures.live
