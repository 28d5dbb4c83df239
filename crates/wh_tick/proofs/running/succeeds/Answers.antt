use Rattle.std.proofs.Common.{map, ◌∙◌}
use Rattle.wh_reply.specs.Reply.{TaskSucceeded}
use Rattle.wh_reply.specs.View.{counts_view}
use Rattle.wh_state.specs.Task.{Succeeded}
use Rattle.wh_record.specs.View.{change_of}
use Rattle.wh_task.specs.View.{task_of}
use Rattle.wh_machine.specs.Outcome.{commits}
use Rattle.wh_machine.specs.Ticks.{end_acts}
use Rattle.wh_catalog.specs.Catalog.{stored_of}
use Rattle.wh_decide.specs.Sight.{machine_in}
use Rattle.wh_decide.proofs.OutcomeLemmas.{decides_as}
use Rattle.wh_tick.proofs.EndLemmas.{end_behind}
use Rattle.wh_tick.proofs.running.succeeds.Goals as goal
use Rattle.std.specs.Prelude.{◌++◌}

pub returns-clause-comes : goal.returns-clause-comes
returns-clause-comes c =
    let sight = c.args.sight.now in
    let turn = c.args.turn.now in
    let m = machine_in sight in
    let r = task_of turn.graph.now in
    let stored = (stored_of sight.catalog.now).objects in
    let end = end_acts m.state.objects turn.root r turn.task Succeeded in
    λ acts is. decides_as sight c.committed.result
    (λ i. commits m (TaskSucceeded (c.in_ok-end.ensures.name i) (counts_view c.args.counts)
    (c.in_ok-end.ensures.aftermath i)) (acts ++ end))
    (c.committed.ensures.comes (acts ++ end) (c.in_ok-end.ensures.changes
    ∙ end_behind sight.stamp stored m.state.objects turn.root r turn.task Succeeded acts
    (map change_of c.args.changes.items) is))

pub returns-clause-ready : goal.returns-clause-ready
returns-clause-ready c = λ are. c.committed.ensures.ready (c.in_ok-end.ensures.read are)
