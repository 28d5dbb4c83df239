use Rattle.std.proofs.Common.{List, [], map, sym, ap, subst, ◌∙◌}
use Rattle.wh_reply.specs.Reply.{TaskSkipped}
use Rattle.wh_state.specs.Commit.{Change}
use Rattle.wh_state.specs.Task.{Skipped}
use Rattle.wh_record.specs.View.{change_of}
use Rattle.wh_task.specs.View.{task_of}
use Rattle.wh_machine.specs.Outcome.{commits}
use Rattle.wh_machine.specs.Ticks.{end_acts}
use Rattle.wh_catalog.specs.Catalog.{stored_of}
use Rattle.wh_decide.specs.Sight.{machine_in}
use Rattle.wh_decide.proofs.OutcomeLemmas.{decides_as}
use Rattle.wh_tick.specs.Changes.{AreRead}
use Rattle.wh_tick.proofs.EndLemmas.{end_behind}
use Rattle.wh_tick.proofs.running.skips.Goals as goal

pub returns-clause-comes : goal.returns-clause-comes
returns-clause-comes c =
    let sight = c.args.sight.now in
    let turn = c.args.turn.now in
    let m = machine_in sight in
    let r = task_of turn.graph.now in
    let acts = end_acts m.state.objects turn.root r turn.task Skipped in
    decides_as sight c.committed.result
    (λ i. commits m (TaskSkipped (c.in_ok-end.ensures.name i)
    (c.in_ok-end.ensures.aftermath i)) acts)
    (c.committed.ensures.comes acts (c.in_ok-end.ensures.changes
    ∙ end_behind sight.stamp (stored_of sight.catalog.now).objects
    m.state.objects turn.root r turn.task Skipped []
    (map change_of c.new.result.items) (ap (map change_of) c.new.ensures.items)))

pub returns-clause-ready : goal.returns-clause-ready
returns-clause-ready c = c.committed.ensures.ready (c.in_ok-end.ensures.read
    (subst (λ (changes : List Change). AreRead changes) (sym (ap (map change_of) c.new.ensures.items)) tt))
