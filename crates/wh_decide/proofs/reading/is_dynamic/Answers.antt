use Rattle.std.proofs.Common.{is_some, ap, ◌∙◌}
use Rattle.wh_decide.proofs.CatalogLemmas.{dynamic_there}
use Rattle.wh_decide.proofs.reading.is_dynamic.Goals as goal

pub returns-in-Some : goal.returns-in-Some
returns-in-Some c = ap is_some (c.in-Some.ensures ∙ dynamic_there c.args.catalog.now c.args.id)

pub returns-in-None : goal.returns-in-None
returns-in-None c = ap is_some (c.in-None.ensures ∙ dynamic_there c.args.catalog.now c.args.id)
