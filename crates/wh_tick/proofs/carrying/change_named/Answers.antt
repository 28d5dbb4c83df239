use Rattle.std.proofs.Common.{Err, sym, ap, subst, map, ◌∙◌}
use Rattle.wh_naming.specs.Changes.{bound_change}
use Rattle.wh_naming.specs.View.{failing_of, named_of}
use Rattle.wh_naming.specs.declared.failing.Failing.{Failing}
use Rattle.wh_bind.specs.declared.fault.BindFault.{BindFault}
use Rattle.wh_dml_bind.specs.Binds.{Binds}
use Rattle.wh_machine.specs.Names.{refusal_of}
use Rattle.wh_machine.specs.Outcome.{Refuses}
use Rattle.wh_decide.specs.Sight.{machine_in}
use Rattle.wh_decide.proofs.OutcomeLemmas.{comes_as}
use Rattle.wh_tick.proofs.CarryLemmas.{bound_alike, bound_failing}
use Rattle.wh_tick.proofs.carrying.change_named.Goals as goal

pub returns-in-Ok-clause-comes : goal.returns-in-Ok-clause-comes
returns-in-Ok-clause-comes g c = λ shown.
    let sight = c.args.sight.now in
    let meant = bound_change (map named_of c.args.names.now) c.args.body.now in
    comes_as sight c.change_rows.result
    (bound_alike (machine_in sight) sight.session c.in-Ok.bound meant c.in-Ok.ensures)
    (c.change_rows.ensures.comes shown)

pub returns-in-Err-Failing-clause-comes : goal.returns-in-Err-Failing-clause-comes
returns-in-Err-Failing-clause-comes g c = λ _.
    let sight = c.args.sight.now in
    let meant = bound_change (map named_of c.args.names.now) c.args.body.now in
    let failing = c.in-Err-Failing.failing in
    let fails = subst (λ (fault : BindFault). Binds (Err fault) meant) c.in-Err-Failing.field-0-is
    c.in-Err-Failing.ensures in
    bound_failing (machine_in sight) sight.session meant (failing_of failing) fails
    ∙ ap Refuses (sym (c.refusal.ensures ∙ ap (λ (f : Failing). refusal_of (failing_of f)) c.in-Err-Failing.failing-is))
