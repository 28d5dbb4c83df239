use Rattle.wh_state.specs.Task.{with_state}
use Rattle.wh_task.specs.View.{state_of}
use Rattle.wh_catalog.specs.Back.{on_task_kept}
use Rattle.wh_catalog.proofs.Names.{keeps_life}
use Rattle.wh_catalog.proofs.Places.{kept_changed}
use Rattle.wh_catalog.proofs.TaskPlaces.{none_there, back_there}
use Rattle.wh_catalog.proofs.running.put_state.Goals as goal

pub returns-clause-put : goal.returns-clause-put
returns-clause-put c =
    kept_changed c.in_ok-place.ensures.found c.index_mut-object.ensures.value
    c.put_state.new.self (on_task_kept (with_state (state_of c.args.state))) c.put_state.ensures.put

pub returns-clause-back : goal.returns-clause-back
returns-clause-back c =
    back_there c.in_ok-place.ensures.found c.index_mut-object.ensures.value
    c.put_state.result c.put_state.new.self (λ before. with_state (state_of before)) c.put_state.ensures.back

pub returns-clause-none : goal.returns-clause-none
returns-clause-none c =
    none_there c.in_ok-place.ensures.found c.index_mut-object.ensures.value c.put_state.result c.put_state.ensures.none

pub returns-clause-names : goal.returns-clause-names
returns-clause-names c =
    keeps_life c.in_ok-place.ensures.found c.index_mut-object.ensures.value
    c.put_state.new.self c.put_state.ensures.name c.put_state.ensures.live
