use Rattle.wh_task.specs.View.{run_of}
use Rattle.wh_catalog.specs.Back.{on_task_kept, holding}
use Rattle.wh_catalog.proofs.Names.{keeps_life}
use Rattle.wh_catalog.proofs.Places.{kept_changed}
use Rattle.wh_catalog.proofs.TaskPlaces.{none_there, back_there}
use Rattle.wh_catalog.proofs.running.put_run.Goals as goal

pub returns-clause-put : goal.returns-clause-put
returns-clause-put c =
    kept_changed c.in_ok-place.ensures.found c.index_mut-object.ensures.value
    c.put_run.new.self (on_task_kept (holding (run_of c.args.run.items))) c.put_run.ensures.put

pub returns-clause-back : goal.returns-clause-back
returns-clause-back c =
    back_there c.in_ok-place.ensures.found c.index_mut-object.ensures.value
    c.put_run.result c.put_run.new.self (λ before. holding (run_of before.items)) c.put_run.ensures.back

pub returns-clause-none : goal.returns-clause-none
returns-clause-none c =
    none_there c.in_ok-place.ensures.found c.index_mut-object.ensures.value c.put_run.result c.put_run.ensures.none

pub returns-clause-names : goal.returns-clause-names
returns-clause-names c =
    keeps_life c.in_ok-place.ensures.found c.index_mut-object.ensures.value
    c.put_run.new.self c.put_run.ensures.name c.put_run.ensures.live
