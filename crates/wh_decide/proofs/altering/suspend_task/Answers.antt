use Rattle.std.proofs.Common.{None, refl, ◌∙◌}
use Rattle.wh_reply.specs.Reply.{Suspended}
use Rattle.wh_state.specs.Objects.{task_at}
use Rattle.wh_machine.specs.Tasks.{suspended_state, put_to, suspend_task}
use Rattle.wh_catalog.specs.Catalog.{state_of}
use Rattle.wh_decide.specs.Sight.{machine_in}
use Rattle.wh_decide.proofs.OutcomeLemmas.{decides_as}
use Rattle.wh_decide.proofs.DefineLemmas.{defines_as}
use Rattle.wh_decide.proofs.AlterLemmas.{put_written_as}
use Rattle.wh_decide.proofs.altering.suspend_task.Goals as goal

pub returns : goal.returns
unfolding suspend_task
returns c =
    let sight = c.args.sight.now in
    let id = c.args.id in
    let acts = put_to id suspended_state (task_at (state_of sight.catalog.now).objects id) in
    decides_as sight c.tested.result
    (defines_as {wrong = None} {found = None} (machine_in sight) sight.session None Suspended acts refl
    c.in_ok-name_of.ensures)
    (c.tested.ensures acts
    (c.in_ok-changes.ensures ∙ put_written_as sight.catalog.now sight.stamp id suspended_state))
