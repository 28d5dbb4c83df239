use Rattle.wh_state.specs.Dynamic.{with_dynamic_state}
use Rattle.wh_dynamic.specs.View.{state_of}
use Rattle.wh_catalog.specs.Back.{on_dynamic_kept}
use Rattle.wh_catalog.proofs.Names.{keeps_life}
use Rattle.wh_catalog.proofs.Places.{kept_changed}
use Rattle.wh_catalog.proofs.dynamics.put_dynamic_back.Goals as goal

pub returns-clause-back : goal.returns-clause-back
returns-clause-back c =
    kept_changed c.in-Some.ensures.found c.index_mut-object.ensures.value
    c.put_dynamic_back.new.self (on_dynamic_kept (with_dynamic_state (state_of c.args.state))) c.put_dynamic_back.ensures.back

pub returns-clause-names : goal.returns-clause-names
returns-clause-names c =
    keeps_life c.in-Some.ensures.found c.index_mut-object.ensures.value
    c.put_dynamic_back.new.self c.put_dynamic_back.ensures.name c.put_dynamic_back.ensures.live
