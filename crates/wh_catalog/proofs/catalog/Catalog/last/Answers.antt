use Rattle.wh_catalog.specs.Catalog.{stored_of, kept_of}
use Rattle.wh_catalog.proofs.OrderlyObjects.{orderly_objects}
use Rattle.wh_catalog.proofs.catalog.Catalog.last.Goals as goal

pub returns-clause-orderly : goal.returns-clause-orderly
unfolding stored_of kept_of
returns-clause-orderly c = orderly_objects c.args.self.now.objects.items
