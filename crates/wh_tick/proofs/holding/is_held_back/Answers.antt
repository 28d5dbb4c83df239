use Rattle.std.proofs.Common.{◌∷◌, is_some, ap, ◌∙◌}
use Rattle.wh_machine.specs.Offsets.{streams_among}
use Rattle.wh_machine.specs.Ticks.{first_held}
use Rattle.wh_decide.specs.Sight.{machine_in}
use Rattle.wh_tick.proofs.holding.is_held_back.Goals as goal

pub returns : goal.returns
returns c =
    let m = machine_in c.args.sight.now in
    let streams = c.deref-2.ensures.value ∙ c.in_ok-streams.ensures
    ∙ ap (streams_among m.state.objects) (c.deref.ensures.value ∙ c.in_ok-reach.ensures.sources) in
    c.is_reached.ensures ∙ (λ i. is_some (first_held m.sessions (c.in_ok-reach.ensures.target i ∷ streams i)))
