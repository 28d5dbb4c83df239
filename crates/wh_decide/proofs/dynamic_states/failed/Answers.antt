use Rattle.std.proofs.Common.{ap, sym, ◌∙◌}
use Rattle.std.proofs.lemmas.Result.{IfOk-weaker}
use Rattle.wh_reply.specs.View.{refusal_view}
use Rattle.wh_dynamic.specs.View.{dynamic_of}
use Rattle.wh_machine.specs.Dynamics.{failed_of}
use Rattle.wh_decide.specs.Sight.{machine_in}
use Rattle.wh_decide.proofs.OutcomeLemmas.{decides_as}
use Rattle.wh_decide.proofs.DynamicLemmas.{dynamic_there}
use Rattle.wh_decide.proofs.dynamic_states.failed.Goals as goal

pub returns-in-Some : goal.returns-in-Some
returns-in-Some c =
    let sight = c.args.sight.now in
    IfOk-weaker c.counted.result _ _
    (λ decision told. decides_as sight decision
    (ap (failed_of (machine_in sight) c.args.id c.args.target (refusal_view c.args.why))
    (c.in-Some.ensures ∙ dynamic_there sight.catalog.now c.args.id))
    (told (dynamic_of c.in-Some.dynamic.now) (sym c.state.ensures))) c.counted.ensures

pub returns-in-None : goal.returns-in-None
returns-in-None c =
    let sight = c.args.sight.now in
    sym (ap (failed_of (machine_in sight) c.args.id c.args.target (refusal_view c.args.why))
    (c.in-None.ensures ∙ dynamic_there sight.catalog.now c.args.id))
