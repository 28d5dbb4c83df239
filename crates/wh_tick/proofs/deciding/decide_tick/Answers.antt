use Rattle.std.proofs.Common.{sym, ap, ◌∙◌}
use Rattle.wh_task.specs.View.{action_of}
use Rattle.wh_decide.specs.Sight.{machine_in}
use Rattle.wh_decide.proofs.OutcomeLemmas.{decides_as, comes_as}
use Rattle.wh_tick.proofs.RunLemmas.{ticked_as}
use Rattle.std.proofs.Common.{subst}
use Rattle.std.specs.Result.{IfOk}
use Rattle.wh_graph.specs.Action.{Action}
use Rattle.wh_decide.specs.Decision.{answer_of}
use Rattle.wh_decide.specs.RefreshAsked.{refresh_acted, AsksAsReplied}
use Rattle.wh_machine.specs.Ticks.{action_at}
use Rattle.wh_decide.proofs.RefreshAskLaws.{nothing_asks, none_asks}
use Rattle.wh_tick.proofs.deciding.decide_tick.Goals as goal

pub returns-in-RunTask-clause-comes : goal.returns-in-RunTask-clause-comes
returns-in-RunTask-clause-comes g c = λ shown sound.
    let sight = c.args.sight.now in
    comes_as sight c.run_task.result
    (ticked_as (machine_in sight) _ (sym (ap action_of c.in-RunTask.is) ∙ c.in_ok-root.ensures))
    (c.run_task.ensures.comes shown)

pub returns-in_ok-start_run-in-StartRun-clause-comes : goal.returns-in_ok-start_run-in-StartRun-clause-comes
returns-in_ok-start_run-in-StartRun-clause-comes g c = λ _ _.
    let sight = c.args.sight.now in
    decides_as sight _
    (ticked_as (machine_in sight) _ (sym (ap action_of c.in-StartRun.is) ∙ c.in_ok-root.ensures))
    c.in_ok-start_run-in-StartRun.ensures.comes

pub returns-in-Nothing-clause-comes : goal.returns-in-Nothing-clause-comes
returns-in-Nothing-clause-comes g c = λ shown sound.
    let sight = c.args.sight.now in
    comes_as sight c.refresh_due.result
    (ticked_as (machine_in sight) _ (sym (ap action_of c.in-Nothing.is) ∙ c.in_ok-root.ensures))
    (c.refresh_due.ensures.comes shown sound)

-- ---- what is asked for

pub returns-in-RunTask-clause-fetches : goal.returns-in-RunTask-clause-fetches
returns-in-RunTask-clause-fetches g c =
    let m = machine_in c.args.sight.now in
    none_asks c.args.sight.now.catalog.now c.args.fetch.now.asked.items c.run_task.new.fetch.asked.items
    (refresh_acted m (action_at m)) c.run_task.result
    (sym (ap (refresh_acted m) (sym (ap action_of c.in-RunTask.is) ∙ c.in_ok-root.ensures)))

pub returns-in_ok-start_run-in-StartRun-clause-fetches : goal.returns-in_ok-start_run-in-StartRun-clause-fetches
returns-in_ok-start_run-in-StartRun-clause-fetches g c =
    let m = machine_in c.args.sight.now in
    nothing_asks c.args.sight.now.catalog.now c.args.fetch.now.asked.items c.args.fetch.now.asked.items
    (refresh_acted m (action_at m)) _
    (sym (ap (refresh_acted m) (sym (ap action_of c.in-StartRun.is) ∙ c.in_ok-root.ensures)))

pub returns-in-Nothing-clause-fetches : goal.returns-in-Nothing-clause-fetches
returns-in-Nothing-clause-fetches g c =
    let sight = c.args.sight.now in
    subst (λ (a : Action). IfOk c.refresh_due.result (λ d. AsksAsReplied sight.catalog.now
    (refresh_acted (machine_in sight) a) c.args.fetch.now.asked.items c.refresh_due.new.fetch.asked.items (answer_of d)))
    (sym (ap action_of c.in-Nothing.is) ∙ c.in_ok-root.ensures) c.refresh_due.ensures.fetches
