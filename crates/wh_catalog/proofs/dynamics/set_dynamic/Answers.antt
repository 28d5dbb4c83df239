use Rattle.std.proofs.Common.{sym, subst, Option}
use Rattle.wh_table.specs.declared.fault.StageFault.TheVariants.{NotApplicable}
use Rattle.wh_state.specs.Stored.{StoredObject}
use Rattle.wh_state.specs.Dynamic.{with_dynamic_state}
use Rattle.wh_state.specs.Commit.{DynamicStateApplies, on_dynamic_stored}
use Rattle.wh_dynamic.specs.View.{state_of}
use Rattle.wh_catalog.specs.Back.{on_dynamic_kept}
use Rattle.wh_catalog.proofs.Names.{keeps_life}
use Rattle.wh_catalog.proofs.Steps.{same_fault}
use Rattle.wh_catalog.proofs.Places.{stands, changed, put_back, same_kept}
use Rattle.wh_catalog.proofs.dynamics.set_dynamic.Goals as goal

pub returns-in-Ok-clause-applies : goal.returns-in-Ok-clause-applies
returns-in-Ok-clause-applies c =
    let P : Option StoredObject → Type 0 = λ o. DynamicStateApplies o (state_of c.args.state) in
    subst P (sym (stands c.in-Some.ensures.found c.index_mut-object.ensures.value)) c.in-Ok.ensures.applies

pub returns-in-Ok-clause-changed : goal.returns-in-Ok-clause-changed
returns-in-Ok-clause-changed c =
    changed c.in-Some.ensures.found c.index_mut-object.ensures.value
    c.set_dynamic.new.self (on_dynamic_stored (with_dynamic_state (state_of c.args.state))) c.in-Ok.ensures.set

pub returns-in-Ok-clause-back : goal.returns-in-Ok-clause-back
returns-in-Ok-clause-back c =
    put_back c.in-Some.ensures.found c.index_mut-object.ensures.value
    c.set_dynamic.new.self (on_dynamic_kept (with_dynamic_state (state_of c.in-Ok.before))) c.in-Ok.ensures.back

pub returns-in-Err-clause-not_applicable : goal.returns-in-Err-clause-not_applicable
returns-in-Err-clause-not_applicable c = λ why fits.
    let P : Option StoredObject → Type 0 = λ o. DynamicStateApplies o (state_of c.args.state) in
    c.in-Err.ensures.not_applicable (same_fault c.in-Err.fault NotApplicable why)
    (subst P (stands c.in-Some.ensures.found c.index_mut-object.ensures.value) fits)

pub returns-in-Err-clause-same : goal.returns-in-Err-clause-same
returns-in-Err-clause-same c =
    same_kept c.in-Some.ensures.found c.index_mut-object.ensures.value c.set_dynamic.new.self c.in-Err.ensures.same

pub returns-in-Ok-clause-names : goal.returns-in-Ok-clause-names
returns-in-Ok-clause-names c =
    keeps_life c.in-Some.ensures.found c.index_mut-object.ensures.value
    c.set_dynamic.new.self c.set_dynamic.ensures.name c.set_dynamic.ensures.live

pub returns-in-Err-clause-names : goal.returns-in-Err-clause-names
returns-in-Err-clause-names c =
    keeps_life c.in-Some.ensures.found c.index_mut-object.ensures.value
    c.set_dynamic.new.self c.set_dynamic.ensures.name c.set_dynamic.ensures.live
