use Rattle.std.proofs.Common.{ap, ◌∙◌}
use Rattle.std.proofs.lemmas.Result.{IfOk-weaker}
use Rattle.wh_machine.specs.Tasks.{resumed_state}
use Rattle.wh_task.specs.View.{state_of}
use Rattle.wh_decide.specs.Tasks.{put_written, put_written_to}
use Rattle.wh_decide.proofs.altering.resumption.Goals as goal

pub returns-in-Some : goal.returns-in-Some
returns-in-Some c =
    let sight = c.args.sight.now in
    let id = c.args.id in
    IfOk-weaker c.put_state.result _ _
    (λ changes written. written ∙ ap (put_written id (state_of c.in-Some.task.now.state)) c.resumed_state.ensures
    ∙ ap (put_written_to id (resumed_state sight.stamp id)) c.in-Some.ensures) c.put_state.ensures
