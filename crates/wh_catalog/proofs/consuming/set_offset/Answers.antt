use Rattle.std.proofs.Common.{sym, subst, Option}
use Rattle.wh_table.specs.declared.fault.StageFault.TheVariants.{NotApplicable}
use Rattle.wh_state.specs.Stored.{StoredObject}
use Rattle.wh_state.specs.Commit.{OffsetApplies, offset_set}
use Rattle.wh_catalog.specs.Back.{object_put_back}
use Rattle.wh_catalog.proofs.Names.{keeps_life}
use Rattle.wh_catalog.proofs.Steps.{same_fault}
use Rattle.wh_catalog.proofs.Places.{stands, changed, put_back, same_kept}
use Rattle.wh_catalog.proofs.consuming.set_offset.Goals as goal

pub returns-in-Ok-clause-applies : goal.returns-in-Ok-clause-applies
returns-in-Ok-clause-applies c =
    let P : Option StoredObject → Type 0 = λ o. OffsetApplies o c.args.offset in
    subst P (sym (stands c.in-Some.ensures.found c.index_mut-object.ensures.value)) c.in-Ok.ensures.applies

pub returns-in-Ok-clause-changed : goal.returns-in-Ok-clause-changed
returns-in-Ok-clause-changed c =
    changed c.in-Some.ensures.found c.index_mut-object.ensures.value
    c.set_offset.new.self (offset_set c.args.offset) c.in-Ok.ensures.set

pub returns-in-Ok-clause-back : goal.returns-in-Ok-clause-back
returns-in-Ok-clause-back c =
    put_back c.in-Some.ensures.found c.index_mut-object.ensures.value
    c.set_offset.new.self (object_put_back c.in-Ok.before) c.in-Ok.ensures.back

pub returns-in-Err-clause-not_applicable : goal.returns-in-Err-clause-not_applicable
returns-in-Err-clause-not_applicable c = λ why fits.
    let P : Option StoredObject → Type 0 = λ o. OffsetApplies o c.args.offset in
    c.in-Err.ensures.not_applicable (same_fault c.in-Err.fault NotApplicable why)
    (subst P (stands c.in-Some.ensures.found c.index_mut-object.ensures.value) fits)

pub returns-in-Err-clause-same : goal.returns-in-Err-clause-same
returns-in-Err-clause-same c =
    same_kept c.in-Some.ensures.found c.index_mut-object.ensures.value c.set_offset.new.self c.in-Err.ensures.same

pub returns-in-Ok-clause-names : goal.returns-in-Ok-clause-names
returns-in-Ok-clause-names c =
    keeps_life c.in-Some.ensures.found c.index_mut-object.ensures.value
    c.set_offset.new.self c.set_offset.ensures.name c.set_offset.ensures.live

pub returns-in-Err-clause-names : goal.returns-in-Err-clause-names
returns-in-Err-clause-names c =
    keeps_life c.in-Some.ensures.found c.index_mut-object.ensures.value
    c.set_offset.new.self c.set_offset.ensures.name c.set_offset.ensures.live
