use Rattle.std.proofs.Common.{Option, ap, ◌∙◌}
use Rattle.std.specs.Option.{option_map_or}
use Rattle.wh_state.specs.Dynamic.{DynamicState, Dynamic}
use Rattle.wh_decide.proofs.DynamicLemmas.{dynamic_there}
use Rattle.wh_decide.proofs.lags.lag_at.Goals as goal

pub returns-in-Some : goal.returns-in-Some
returns-in-Some c =
    ap (λ (s : DynamicState). s.lag) c.state.ensures
    ∙ ap (λ (found : Option Dynamic). option_map_or (λ d. d.state.lag) found 0)
    (c.in-Some.ensures ∙ dynamic_there c.args.catalog.now c.args.id)

pub returns-in-None : goal.returns-in-None
returns-in-None c = ap (λ (found : Option Dynamic). option_map_or (λ d. d.state.lag) found 0)
    (c.in-None.ensures ∙ dynamic_there c.args.catalog.now c.args.id)
