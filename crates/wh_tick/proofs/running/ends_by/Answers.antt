use Rattle.std.proofs.Common.{sym, ap, subst, ◌∙◌}
use Rattle.std.specs.Prelude.{unwrap_or, []}
use Rattle.std.specs.Option.{option_map_or}
use Rattle.std.proofs.lemmas.Result.{IfOk-weaker}
use Rattle.wh_reply.specs.Reply.{RowCounts, TaskSucceeded}
use Rattle.wh_state.specs.Objects.{name_at}
use Rattle.wh_state.specs.Task.{Succeeded}
use Rattle.wh_machine.specs.Ticks.{aftermath_of, carried_in, ends_as}
use Rattle.wh_task.specs.View.{task_of}
use Rattle.wh_catalog.specs.Catalog.{stored_of, state_of}
use Rattle.wh_decide.specs.declared.decision.Decision.{Decision}
use Rattle.wh_decide.specs.Decision.{commit_in}
use Rattle.wh_decide.specs.Sight.{machine_in, Comes, IsReady}
use Rattle.wh_decide.proofs.OutcomeLemmas.{decides_as}
use Rattle.wh_tick.specs.Changes.{AreRead}
use Rattle.wh_tick.proofs.ReadyLemmas.{changes_read}
use Rattle.wh_tick.proofs.RunLemmas.{changes_for}
use Rattle.wh_tick.proofs.running.ends_by.Goals as goal

pub returns-in-Refuse-clause-comes : goal.returns-in-Refuse-clause-comes
returns-in-Refuse-clause-comes c =
    let sight = c.args.sight.now in
    let turn = c.args.turn.now in
    let m = machine_in sight in
    IfOk-weaker c.fails.result _ _
    (λ ended is o comes. decides_as sight ended (ap (carried_in m turn.root (task_of turn.graph.now) turn.task)
    (sym (subst (λ (d : Decision). Comes sight d o) c.in-Refuse.is comes))) is)
    c.fails.ensures.comes

pub returns-in-Do-clause-comes : goal.returns-in-Do-clause-comes
returns-in-Do-clause-comes c =
    let sight = c.args.sight.now in
    let turn = c.args.turn.now in
    let m = machine_in sight in
    let r = task_of turn.graph.now in
    let s = stored_of sight.catalog.now in
    let name = name_at (state_of sight.catalog.now).objects turn.task in
    IfOk-weaker c.succeeds.result _ _
    (λ ended goes o comes.
    let h = subst (λ (d : Decision). Comes sight d o) c.in-Do.is comes in
    let acts = unwrap_or h.acts [] in
    decides_as sight ended
    (ap (λ (counts : RowCounts). ends_as m turn.root r turn.task Succeeded
    (TaskSucceeded name counts (aftermath_of m turn.root r turn.task Succeeded)) acts) c.counts_in-counts.ensures
    ∙ ap (carried_in m turn.root r turn.task) (sym h.does))
    (goes acts (c.changes_in-changes.ensures ∙ ap (λ commit. option_map_or (λ c. c.changes) commit []) h.written
    ∙ changes_for s sight.stamp h.acts)))
    c.succeeds.ensures.comes

pub returns-in-Do-clause-ready : goal.returns-in-Do-clause-ready
returns-in-Do-clause-ready c = λ ready.
    let h = subst (λ (d : Decision). IsReady c.args.sight.now d) c.in-Do.is ready in
    c.succeeds.ensures.ready (subst AreRead (sym c.changes_in-changes.ensures)
    (changes_read (commit_in c.in-Do.settlement) h.read))
