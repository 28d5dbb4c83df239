use Rattle.std.proofs.Common.{ap, ◌∙◌}
use Rattle.std.proofs.lemmas.Result.{IfOk-weaker}
use Rattle.wh_machine.specs.Tasks.{suspended_state}
use Rattle.wh_task.specs.View.{state_of}
use Rattle.wh_decide.specs.Tasks.{put_written, put_written_to}
use Rattle.wh_decide.proofs.altering.suspension.Goals as goal

pub returns-in-Some : goal.returns-in-Some
returns-in-Some c =
    let id = c.args.id in
    IfOk-weaker c.put_state.result _ _
    (λ changes written. written ∙ ap (put_written id (state_of c.in-Some.task.now.state)) c.suspended_state.ensures
    ∙ ap (put_written_to id suspended_state) c.in-Some.ensures) c.put_state.ensures
