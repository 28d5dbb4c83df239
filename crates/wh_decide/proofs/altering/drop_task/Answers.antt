use Rattle.std.proofs.Common.{[], ◌∷◌, Some}
use Rattle.wh_reply.specs.Reply.{DroppedTask}
use Rattle.wh_state.specs.Act.{DropsObject}
use Rattle.wh_machine.specs.Tasks.{drop_task}
use Rattle.wh_decide.specs.Sight.{machine_in}
use Rattle.wh_decide.proofs.DefineLemmas.{defines_as}
use Rattle.wh_decide.proofs.OutcomeLemmas.{comes_as}
use Rattle.wh_decide.proofs.altering.drop_task.Goals as goal

pub returns : goal.returns
unfolding drop_task
returns c =
    let sight = c.args.sight.now in
    comes_as sight c.drop_object.result
    (defines_as (machine_in sight) sight.session (Some c.args.id) DroppedTask (DropsObject c.args.id ∷ [])
    c.in_ok-wrong.ensures c.in_ok-name_of.ensures)
    c.drop_object.ensures
