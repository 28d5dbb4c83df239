use Rattle.std.proofs.Common.{ap, ◌∙◌}
use Rattle.std.proofs.lemmas.Result.{IfOk-weaker}
use Rattle.wh_dynamic.specs.View.{state_of}
use Rattle.wh_decide.specs.Dynamics.{put_written, put_written_to, resumed_state}
use Rattle.wh_decide.proofs.dynamic_states.resumption.Goals as goal

pub returns-in-Some : goal.returns-in-Some
returns-in-Some c =
    let id = c.args.id in
    IfOk-weaker c.put_state.result _ _
    (λ changes written. written ∙ ap (put_written id (state_of c.state.result)) c.resumed.ensures
    ∙ (λ i. put_written id (c.state.ensures i) (resumed_state (c.state-in-Some.ensures i)))
    ∙ ap (put_written_to id resumed_state) c.in-Some.ensures) c.put_state.ensures
