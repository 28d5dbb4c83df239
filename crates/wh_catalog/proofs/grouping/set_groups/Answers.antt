use Rattle.std.proofs.Common.{sym, subst, Option}
use Rattle.wh_table.specs.declared.fault.StageFault.TheVariants.{NotApplicable}
use Rattle.wh_state.specs.Stored.{StoredObject}
use Rattle.wh_state.specs.Dynamic.{behind_change}
use Rattle.wh_state.specs.Commit.{GroupsApply, on_dynamic_stored}
use Rattle.wh_dynamic.specs.View.{groups_change_of}
use Rattle.wh_catalog.specs.Back.{object_regrouped}
use Rattle.wh_catalog.proofs.Names.{keeps_life}
use Rattle.wh_catalog.proofs.Steps.{same_fault}
use Rattle.wh_catalog.proofs.Places.{stands, changed, put_back, same_kept}
use Rattle.wh_catalog.proofs.grouping.set_groups.Goals as goal

pub returns-in-Ok-clause-applies : goal.returns-in-Ok-clause-applies
returns-in-Ok-clause-applies c =
    let P : Option StoredObject → Type 0 = λ o. GroupsApply o (groups_change_of c.args.groups) in
    subst P (sym (stands c.in-Some.ensures.found c.index_mut-object.ensures.value)) c.in-Ok.ensures.applies

pub returns-in-Ok-clause-changed : goal.returns-in-Ok-clause-changed
returns-in-Ok-clause-changed c =
    changed c.in-Some.ensures.found c.index_mut-object.ensures.value
    c.set_groups.new.self (on_dynamic_stored (behind_change (groups_change_of c.args.groups))) c.in-Ok.ensures.set

pub returns-in-Ok-clause-back : goal.returns-in-Ok-clause-back
returns-in-Ok-clause-back c =
    put_back c.in-Some.ensures.found c.index_mut-object.ensures.value
    c.set_groups.new.self (object_regrouped c.in-Ok.was) c.in-Ok.ensures.back

pub returns-in-Err-clause-not_applicable : goal.returns-in-Err-clause-not_applicable
returns-in-Err-clause-not_applicable c = λ why fits.
    let P : Option StoredObject → Type 0 = λ o. GroupsApply o (groups_change_of c.args.groups) in
    c.in-Err.ensures.not_applicable (same_fault c.in-Err.fault NotApplicable why)
    (subst P (stands c.in-Some.ensures.found c.index_mut-object.ensures.value) fits)

pub returns-in-Err-clause-same : goal.returns-in-Err-clause-same
returns-in-Err-clause-same c =
    same_kept c.in-Some.ensures.found c.index_mut-object.ensures.value c.set_groups.new.self c.in-Err.ensures.same

pub returns-in-Ok-clause-names : goal.returns-in-Ok-clause-names
returns-in-Ok-clause-names c =
    keeps_life c.in-Some.ensures.found c.index_mut-object.ensures.value
    c.set_groups.new.self c.set_groups.ensures.name c.set_groups.ensures.live

pub returns-in-Err-clause-names : goal.returns-in-Err-clause-names
returns-in-Err-clause-names c =
    keeps_life c.in-Some.ensures.found c.index_mut-object.ensures.value
    c.set_groups.new.self c.set_groups.ensures.name c.set_groups.ensures.live
