use Rattle.std.proofs.Common.{None, sym, ◌∙◌}
use Rattle.wh_reply.specs.Reply.{Resumed}
use Rattle.wh_state.specs.Objects.{task_at}
use Rattle.wh_machine.specs.Tasks.{resume_refusal, resumed_state, put_to, resume_task}
use Rattle.wh_catalog.specs.Catalog.{state_of}
use Rattle.wh_decide.specs.Sight.{machine_in}
use Rattle.wh_decide.proofs.OutcomeLemmas.{decides_as}
use Rattle.wh_decide.proofs.DefineLemmas.{defines_as}
use Rattle.wh_decide.proofs.NamingLemmas.{alone}
use Rattle.wh_decide.proofs.AlterLemmas.{put_written_as}
use Rattle.wh_decide.proofs.altering.resume_task.Goals as goal

pub returns : goal.returns
unfolding resume_task
returns c =
    let sight = c.args.sight.now in
    let id = c.args.id in
    let objects = (state_of sight.catalog.now).objects in
    let acts = put_to id (resumed_state sight.stamp id) (task_at objects id) in
    decides_as sight c.tested.result
    (defines_as (machine_in sight) sight.session None Resumed acts
    (c.in_ok-wrong.ensures ∙ sym (alone (resume_refusal objects id))) c.in_ok-name_of.ensures)
    (c.tested.ensures acts
    (c.in_ok-changes.ensures ∙ put_written_as sight.catalog.now sight.stamp id (resumed_state sight.stamp id)))
