use Rattle.std.proofs.Common.{List, ℕ, sym, ap, subst, ◌∙◌}
use Rattle.wh_reply.specs.Reply.{Started}
use Rattle.wh_state.specs.Commit.{Change}
use Rattle.wh_task.specs.View.{state_of}
use Rattle.wh_machine.specs.Outcome.{commits}
use Rattle.wh_machine.specs.Ticks.{scheduled_acts, starts_run}
use Rattle.wh_decide.specs.Sight.{machine_in}
use Rattle.wh_decide.proofs.OutcomeLemmas.{decides_as}
use Rattle.wh_tick.specs.Changes.{AreRead}
use Rattle.wh_tick.proofs.starting.start_run.Goals as goal

pub returns-in_default-clause-comes : goal.returns-in_default-clause-comes
returns-in_default-clause-comes c =
    let sight = c.args.sight.now in
    decides_as sight c.idle.result (ap (starts_run (machine_in sight) c.args.root) c.in_default.ensures)
    c.idle.ensures.comes

pub returns-clause-comes : goal.returns-clause-comes
returns-clause-comes c =
    let sight = c.args.sight.now in
    let m = machine_in sight in
    let acts = scheduled_acts m.state.objects sight.stamp c.args.root (state_of c.in-Some.task.now.state) in
    decides_as sight c.committed.result
    (ap (λ (name : List ℕ). commits m (Started name) acts) c.in_ok-name.ensures
    ∙ ap (starts_run m c.args.root) c.in-Some.ensures)
    (c.committed.ensures.comes acts c.in_ok-changes.ensures)

pub returns-clause-ready : goal.returns-clause-ready
returns-clause-ready c = c.committed.ensures.ready
    (subst (λ (changes : List Change). AreRead changes) (sym c.in_ok-changes.ensures) (tt, (tt, tt)))
