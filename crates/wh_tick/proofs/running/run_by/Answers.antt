use Rattle.std.proofs.Common.{sym, ap, ◌∙◌}
use Rattle.wh_fetch.specs.DiskFetch.{goes_on}
use Rattle.wh_ast.specs.declared.dml.Dml.{Dml}
use Rattle.wh_machine.specs.Ticks.{Holds, runs_by}
use Rattle.wh_task.specs.View.{task_of}
use Rattle.wh_decide.specs.Sight.{machine_in}
use Rattle.wh_decide.proofs.OutcomeLemmas.{decides_as, comes_as}
use Rattle.wh_tick.specs.Guards.{verdict_of}
use Rattle.wh_decide.proofs.ReadyLemmas.{still_shown}
use Rattle.wh_tick.proofs.running.run_by.Goals as goal

pub returns-in_ok-fails-in-Fails-clause-comes : goal.returns-in_ok-fails-in-Fails-clause-comes
returns-in_ok-fails-in-Fails-clause-comes g c = λ shown.
    let sight = c.args.sight.now in
    let turn = c.args.turn.now in
    decides_as sight _
    (ap (runs_by (machine_in sight) turn.root (task_of turn.graph.now) turn.task c.args.runs.now.body)
    (sym (ap verdict_of c.in-Fails.is) ∙ c.in_ok-why.ensures.verdict shown)) c.in_ok-fails-in-Fails.ensures.comes

pub returns-in_ok-skips-in-HoldsNot-clause-comes : goal.returns-in_ok-skips-in-HoldsNot-clause-comes
returns-in_ok-skips-in-HoldsNot-clause-comes g c = λ shown.
    let sight = c.args.sight.now in
    let turn = c.args.turn.now in
    decides_as sight _
    (ap (runs_by (machine_in sight) turn.root (task_of turn.graph.now) turn.task c.args.runs.now.body)
    (sym (ap verdict_of c.in-HoldsNot.is) ∙ c.in_ok-why.ensures.verdict shown)) c.in_ok-skips-in-HoldsNot.ensures.comes

pub returns-in-Holds-clause-comes : goal.returns-in-Holds-clause-comes
returns-in-Holds-clause-comes g c = λ shown.
    let sight = c.args.sight.now in
    let turn = c.args.turn.now in
    comes_as sight c.carries.result
    (ap (λ (body : Dml). runs_by (machine_in sight) turn.root (task_of turn.graph.now) turn.task body Holds)
    c.get.ensures
    ∙ ap (runs_by (machine_in sight) turn.root (task_of turn.graph.now) turn.task c.args.runs.now.body)
    (sym (ap verdict_of c.in-Holds.is) ∙ c.in_ok-why.ensures.verdict shown))
    (c.carries.ensures.comes (still_shown sight c.in_ok-why.ensures.same shown))

pub returns-in-Holds-clause-goes : goal.returns-in-Holds-clause-goes
returns-in-Holds-clause-goes g c = goes_on g.D.Disk _ _ _ c.in_ok-why.ensures.goes c.carries.ensures.goes
