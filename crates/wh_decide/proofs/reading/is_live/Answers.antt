use Rattle.std.proofs.Common.{false, ap, ◌∙◌}
use Rattle.std.specs.Option.{option_map_or}
use Rattle.wh_decide.proofs.CatalogLemmas.{lives_there}
use Rattle.wh_decide.proofs.reading.is_live.Goals as goal

pub returns-in-Some : goal.returns-in-Some
returns-in-Some c =
    c.is_live.ensures
    ∙ ap (λ found. option_map_or (λ o. o.is_live) found false) c.in-Some.ensures.object
    ∙ lives_there c.args.catalog.now c.args.id

pub returns-in-None : goal.returns-in-None
returns-in-None c =
    ap (λ found. option_map_or (λ o. o.is_live) found false) c.in-None.ensures.object
    ∙ lives_there c.args.catalog.now c.args.id
