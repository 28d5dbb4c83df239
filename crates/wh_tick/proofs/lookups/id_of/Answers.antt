use Rattle.std.proofs.Common.{◌∙◌}
use Rattle.wh_tick.proofs.CatalogLemmas.{named_id}
use Rattle.wh_tick.proofs.lookups.id_of.Goals as goal

pub returns : goal.returns
returns c = (rw c.as_bytes.ensures.value at c.find.ensures) ∙ named_id c.args.catalog.now c.args.name.now
