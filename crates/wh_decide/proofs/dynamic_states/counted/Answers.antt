use Rattle.std.proofs.Common.{[], ◌∷◌, map, ap, sym, ◌∙◌}
use Rattle.wh_reply.specs.Reply.{RefreshFailed}
use Rattle.wh_reply.specs.View.{refusal_view}
use Rattle.wh_state.specs.Dynamic.{DynamicState}
use Rattle.wh_state.specs.Act.{PutsDynamic}
use Rattle.wh_state.specs.Commit.{SetsDynamic}
use Rattle.wh_record.specs.View.{change_of}
use Rattle.wh_moment.specs.Moment.{behind_failure}
use Rattle.wh_machine.specs.Outcome.{commits}
use Rattle.wh_machine.specs.Dynamics.{is_fifth}
use Rattle.wh_decide.specs.Sight.{machine_in}
use Rattle.wh_decide.proofs.OutcomeLemmas.{decides_as}
use Rattle.wh_decide.proofs.dynamic_states.counted.Goals as goal

pub returns : goal.returns
returns c = λ d is.
    let sight = c.args.sight.now in
    let id = c.args.id in
    let target = c.args.target in
    let acts = PutsDynamic id (behind_failure target d.state) ∷ [] in
    let fifth = c.is_fifth.ensures ∙ ap (λ (s : DynamicState). is_fifth s) (sym is) in
    let behind = c.behind_failure.ensures ∙ ap (behind_failure target) (sym is) in
    decides_as sight c.defined.result
    (λ i. commits (machine_in sight)
    (RefreshFailed (c.in_ok-name.ensures i) target (refusal_view c.args.why) (fifth i)) acts)
    (c.defined.ensures.comes acts
    (ap (map change_of) c.in_ok-changes.ensures.items ∙ (λ i. SetsDynamic id (behind i) ∷ [])))
