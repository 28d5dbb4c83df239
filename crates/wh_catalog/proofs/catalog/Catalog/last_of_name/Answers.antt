use Rattle.std.proofs.Common.{◌∙◌}
use Rattle.wh_catalog.proofs.catalog.Catalog.last_of_name.Goals as goal

pub returns : goal.returns
returns c = c.copied.ensures ∙ c.get.ensures.value ∙ c.args.self.now.named c.args.name.now
