use Rattle.std.proofs.Common.{Some, None, option_map, true, false, refl, sym, ap, ◌∙◌}
use Rattle.wh_reply.specs.View.{refusal_view}
use Rattle.wh_ddl_naming.specs.Names.{names_at}
use Rattle.wh_machine.specs.Ticks.{guard_of, guard_refusal, shows}
use Rattle.wh_decide.specs.Sight.{machine_in}
use Rattle.wh_tick.proofs.GuardLemmas.{verdict_is}
use Rattle.wh_tick.proofs.condition.condition_verdict.Goals as goal

pub returns-in-Some-clause-verdict : goal.returns-in-Some-clause-verdict
returns-in-Some-clause-verdict g c = λ _.
    let m = machine_in c.args.sight.now in
    let guard = guard_of c.args.condition.now in
    let found = c.in_ok-found.ensures
    ∙ ap (guard_refusal m) (ap names_at c.deref.ensures.value ∙ c.in_ok-streams.ensures) in
    verdict_is m guard (Some (refusal_view c.in-Some.why)) (guard.holds (shows m))
    (sym (ap (option_map refusal_view) c.in-Some.is) ∙ found) refl

pub returns-then-so-clause-verdict : goal.returns-then-so-clause-verdict
returns-then-so-clause-verdict g c = λ shown.
    let m = machine_in c.args.sight.now in
    let guard = guard_of c.args.condition.now in
    let found = c.in_ok-found.ensures
    ∙ ap (guard_refusal m) (ap names_at c.deref.ensures.value ∙ c.in_ok-streams.ensures) in
    verdict_is m guard None true (sym (ap (option_map refusal_view) c.in_default.is) ∙ found)
    (sym c.if-so.true ∙ c.in_ok-so.ensures.holds shown)

pub returns-clause-verdict : goal.returns-clause-verdict
returns-clause-verdict g c = λ shown.
    let m = machine_in c.args.sight.now in
    let guard = guard_of c.args.condition.now in
    let found = c.in_ok-found.ensures
    ∙ ap (guard_refusal m) (ap names_at c.deref.ensures.value ∙ c.in_ok-streams.ensures) in
    verdict_is m guard None false (sym (ap (option_map refusal_view) c.in_default.is) ∙ found)
    (sym c.if-so.false ∙ c.in_ok-so.ensures.holds shown)
