use Rattle.std.proofs.Common.{Option, false, ap, sym, ◌∙◌}
use Rattle.std.specs.Option.{option_map_or}
use Rattle.wh_state.specs.Stored.{StoredObject}
use Rattle.wh_decide.proofs.DynamicLemmas.{live_there}
use Rattle.wh_decide.proofs.lags.is_live_at.Goals as goal

pub returns-in-Some : goal.returns-in-Some
returns-in-Some c =
    c.is_live.ensures
    ∙ ap (λ (found : Option StoredObject). option_map_or (λ o. o.is_live) found false) c.in-Some.ensures.object
    ∙ sym (live_there c.args.catalog.now c.args.id)

pub returns-in-None : goal.returns-in-None
returns-in-None c =
    ap (λ (found : Option StoredObject). option_map_or (λ o. o.is_live) found false) c.in-None.ensures.object
    ∙ sym (live_there c.args.catalog.now c.args.id)
